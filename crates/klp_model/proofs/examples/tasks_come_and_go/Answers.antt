use Rattle.std.proofs.Common.{rules}
use Rattle.klp_model.proofs.examples.tasks_come_and_go.Goals as goal

pub returns-clause-child : goal.returns-clause-child
returns-clause-child c = search rules
