use Rattle.std.proofs.Common.{◌≡◌, filter, map, take}
use Rattle.klp_module_matrix.specs.Changes.{meaning}
use Rattle.klp_module_symbols.specs.Kernel.{row_meaning}
use Rattle.klp_module_symbols.specs.Variables.{picks_variable}
use Rattle.klp_module_symbols.proofs.variable.variables.Given as goal

abbrev pub invariant-loop-change : goal.invariant-loop-change
invariant-loop-change l =
    map meaning l.refused.items ≡ filter (picks_variable (map row_meaning l.rows)) (map meaning (take l.change-index l.changes))
