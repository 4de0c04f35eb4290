use Rattle.std.proofs.Common.{length}
use Rattle.klp_module_symbols.proofs.variable.+is_variable_behind.Given as goal

abbrev pub decreases-is_variable_behind : goal.decreases-is_variable_behind
decreases-is_variable_behind l = length l.rows.now
