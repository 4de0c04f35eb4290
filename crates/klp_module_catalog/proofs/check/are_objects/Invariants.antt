use Rattle.std.proofs.Common.{◌≡◌, map, length}
use Rattle.klp_module_symbols.specs.Symbols.{object_meaning}
use Rattle.klp_module_catalog.specs.Said.{are_objects}
use Rattle.klp_module_catalog.proofs.check.are_objects.Given as goal

abbrev pub invariant-loop-left : goal.invariant-loop-left
invariant-loop-left l = are_objects l.fn.objects (map object_meaning l.fn.wanted) ≡ are_objects l.left (map object_meaning l.right)

-- how many are left
abbrev pub decreases-loop-left : goal.decreases-loop-left
decreases-loop-left l = length l.left
