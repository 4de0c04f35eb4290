use Rattle.std.proofs.Common.{◌≡◌, take}
use Rattle.std.specs.List.{flat_map}
use Rattle.klp_module_catalog.specs.Marks.{patch_marks}
use Rattle.klp_module_catalog.proofs.marks.callback_marks.Given as goal

abbrev pub invariant-loop-named : goal.invariant-loop-named
invariant-loop-named l = l.marks.items ≡ flat_map patch_marks (take l.named-index l.patches)
