use Rattle.std.proofs.Common.{◌≡◌, map, take}
use Rattle.std.specs.List.{fold}
use Rattle.klp_tables.specs.Kpatch.{with_name}
use Rattle.klp_tables.proofs.kpatch.add_names.Given as goal

abbrev pub invariant-loop-name : goal.invariant-loop-name
invariant-loop-name l =
    map (λ n. n.now) l.names.items
    ≡ fold with_name (map (λ n. n.now) l.initial.names.items) (map (λ n. n.now) (take l.name-index l.more))
