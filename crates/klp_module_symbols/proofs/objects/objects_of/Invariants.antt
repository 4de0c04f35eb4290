use Rattle.std.proofs.Common.{◌≡◌, map, take}
use Rattle.klp_module_symbols.specs.Kernel.{row_meaning}
use Rattle.klp_module_symbols.specs.Symbols.{object_meaning, object_of, uses_of}
use Rattle.klp_module_symbols.proofs.objects.objects_of.Given as goal

abbrev pub invariant-loop-name : goal.invariant-loop-name
invariant-loop-name l =
    map object_meaning l.objects.items
    ≡ map (object_of (map row_meaning l.rows) (uses_of l.patches)) (map (λ n. n.now) (take l.name-index l.name-items))
