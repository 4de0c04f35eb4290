use Rattle.std.proofs.Common.{◌≡◌, ◌++◌, map, replicate}
use Rattle.klp_module_matrix.specs.Changes.{meaning}
use Rattle.klp_module_symbols.specs.Symbols.{made_up, symbol_meaning}
use Rattle.klp_module_symbols.proofs.objects.add_made_up.Given as goal

abbrev pub invariant-loop-position : goal.invariant-loop-position
invariant-loop-position l =
    map symbol_meaning l.symbols.items ≡ map symbol_meaning l.initial.symbols.items ++ replicate l.position (made_up (meaning l.symbol))
