use Rattle.std.proofs.Common.{◌≡◌, map, take}
use Rattle.klp_module_catalog.specs.Marks.{needs_replace_mark}
use Rattle.klp_module_catalog.proofs.marks.patch_marks.Given as goal

abbrev pub invariant-loop-named : goal.invariant-loop-named
invariant-loop-named l = l.marks.items ≡ map needs_replace_mark (take l.named-index l.patches)
