use Rattle.std.proofs.Common.{◌≡◌, ◌++◌, take}
use Rattle.std.specs.List.{flat_map}
use Rattle.klp_module_catalog.specs.Marks.{object_marks}
use Rattle.klp_module_catalog.proofs.marks.add_object.Given as goal

abbrev pub invariant-loop-object : goal.invariant-loop-object
invariant-loop-object l = l.marks.items ≡ l.initial.marks.items ++ flat_map object_marks (take l.object-index l.objects)
