use Rattle.std.proofs.Common.{◌≡◌, ◌++◌, filter, map, take}
use Rattle.klp_module_matrix.specs.Changes.{meaning}
use Rattle.klp_module_symbols.specs.Kernel.{row_meaning}
use Rattle.klp_module_symbols.specs.Symbols.{is_row_of, known_symbol, symbol_meaning}
use Rattle.klp_module_symbols.proofs.objects.add_known.Given as goal

abbrev pub invariant-loop-row : goal.invariant-loop-row
invariant-loop-row l =
    map symbol_meaning l.symbols.items
    ≡ map symbol_meaning l.initial.symbols.items ++ map known_symbol (filter (is_row_of (meaning l.symbol)) (map row_meaning (take l.row-index l.rows)))
