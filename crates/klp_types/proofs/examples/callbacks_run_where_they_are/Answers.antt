use Rattle.std.proofs.Common.{rules}
use Rattle.klp_types.proofs.examples.callbacks_run_where_they_are.Goals as goal

pub returns-clause-above_0 : goal.returns-clause-above_0
returns-clause-above_0 c = search rules
