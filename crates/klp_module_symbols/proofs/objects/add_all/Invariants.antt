use Rattle.std.proofs.Common.{◌≡◌, ◌++◌, filter, map, take}
use Rattle.std.specs.List.{flat_map}
use Rattle.klp_module_matrix.specs.Changes.{meaning}
use Rattle.klp_module_symbols.specs.Kernel.{row_meaning}
use Rattle.klp_module_symbols.specs.Symbols.{is_of, symbol_meaning, symbols_named}
use Rattle.klp_module_symbols.proofs.objects.add_all.Given as goal

abbrev pub invariant-loop-symbol : goal.invariant-loop-symbol
invariant-loop-symbol l =
    map symbol_meaning l.symbols.items
    ≡ map symbol_meaning l.initial.symbols.items
    ++ flat_map (symbols_named l.is_known (map row_meaning l.from.rows.now) (map meaning l.from.uses.now))
    (filter (is_of l.object) (map meaning (take l.symbol-index l.named)))
