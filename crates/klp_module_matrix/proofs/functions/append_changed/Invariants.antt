use Rattle.std.proofs.Common.{◌≡◌, ◌++◌, map, take}
use Rattle.klp_module_matrix.specs.Changes.{changed_by, meaning}
use Rattle.klp_module_matrix.proofs.functions.append_changed.Given as goal

abbrev pub invariant-loop-object : goal.invariant-loop-object
invariant-loop-object l = map meaning l.changed.items ≡ map meaning l.initial.changed.items ++ changed_by (take l.object-index l.objects)
