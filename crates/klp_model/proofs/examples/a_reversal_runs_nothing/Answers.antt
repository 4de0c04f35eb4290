use Rattle.std.proofs.Common.{rules}
use Rattle.klp_model.proofs.examples.a_reversal_runs_nothing.Goals as goal

pub returns-clause-enabling : goal.returns-clause-enabling
returns-clause-enabling c = search rules
