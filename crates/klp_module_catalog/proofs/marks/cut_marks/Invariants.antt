use Rattle.std.proofs.Common.{◌≡◌, map, take}
use Rattle.klp_module_catalog.specs.Marks.{cut_mark}
use Rattle.klp_module_catalog.proofs.marks.cut_marks.Given as goal

abbrev pub invariant-loop-named : goal.invariant-loop-named
invariant-loop-named l = l.marks.items ≡ map cut_mark (take l.named-index l.patches)
