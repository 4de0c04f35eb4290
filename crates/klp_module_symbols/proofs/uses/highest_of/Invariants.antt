use Rattle.std.proofs.Common.{◌≡◌, map, take}
use Rattle.klp_module_matrix.specs.Changes.{meaning}
use Rattle.klp_module_symbols.specs.Symbols.{highest_of}
use Rattle.klp_module_symbols.proofs.uses.highest_of.Given as goal

abbrev pub invariant-loop-other : goal.invariant-loop-other
invariant-loop-other l = l.highest ≡ highest_of (map meaning (take l.other-index l.uses)) (meaning l.symbol)
