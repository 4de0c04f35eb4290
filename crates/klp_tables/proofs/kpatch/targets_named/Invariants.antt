use Rattle.std.proofs.Common.{◌≡◌, map, take}
use Rattle.klp_tables.specs.Counted.{target_meaning}
use Rattle.klp_tables.specs.Kpatch.{file_meaning, kpatch_target}
use Rattle.klp_tables.proofs.kpatch.targets_named.Given as goal

abbrev pub invariant-loop-name : goal.invariant-loop-name
invariant-loop-name l =
    map target_meaning l.objects.items ≡ map (kpatch_target (file_meaning l.tables)) (map (λ n. n.now) (take l.name-index l.names))
