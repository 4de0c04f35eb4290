use Rattle.std.proofs.Common.{◌≡◌, map, length}
use Rattle.klp_module_symbols.specs.Symbols.{symbol_meaning}
use Rattle.klp_module_catalog.specs.Said.{are_symbols}
use Rattle.klp_module_catalog.proofs.check.are_symbols.Given as goal

abbrev pub invariant-loop-left : goal.invariant-loop-left
invariant-loop-left l = are_symbols l.fn.symbols (map symbol_meaning l.fn.wanted) ≡ are_symbols l.left (map symbol_meaning l.right)

-- how many are left
abbrev pub decreases-loop-left : goal.decreases-loop-left
decreases-loop-left l = length l.left
