use Rattle.std.proofs.Common.{rules}
use Rattle.klp_model.proofs.examples.modules_and_tasks_are_refused.Goals as goal

pub returns-clause-kernel : goal.returns-clause-kernel
returns-clause-kernel c = search rules
