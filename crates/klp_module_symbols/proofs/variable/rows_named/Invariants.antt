use Rattle.std.proofs.Common.{◌≡◌, filter, map, take}
use Rattle.klp_module_matrix.specs.Changes.{meaning}
use Rattle.klp_module_symbols.specs.Kernel.{row_meaning}
use Rattle.klp_module_symbols.specs.Symbols.{is_row_of}
use Rattle.klp_module_symbols.proofs.variable.rows_named.Given as goal

abbrev pub invariant-loop-row : goal.invariant-loop-row
invariant-loop-row l = map row_meaning l.named.items ≡ filter (is_row_of (meaning l.change)) (map row_meaning (take l.row-index l.rows))
