use Rattle.std.proofs.Common.{◌≡◌, map, take}
use Rattle.klp_module_matrix.specs.Changes.{meaning}
use Rattle.klp_module_symbols.specs.Symbols.{named_once}
use Rattle.klp_module_symbols.proofs.uses.named_once.Given as goal

abbrev pub invariant-loop-symbol : goal.invariant-loop-symbol
invariant-loop-symbol l = map meaning l.named.items ≡ named_once (map meaning (take l.symbol-index l.uses))
