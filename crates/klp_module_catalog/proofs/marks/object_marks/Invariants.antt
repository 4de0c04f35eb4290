use Rattle.std.proofs.Common.{◌≡◌, map, take}
use Rattle.klp_module_symbols.specs.Symbols.{object_meaning}
use Rattle.klp_module_catalog.specs.Marks.{symbols_mark}
use Rattle.klp_module_catalog.proofs.marks.object_marks.Given as goal

abbrev pub invariant-loop-object : goal.invariant-loop-object
invariant-loop-object l = l.marks.items ≡ map symbols_mark (map object_meaning (take l.object-index l.objects))
