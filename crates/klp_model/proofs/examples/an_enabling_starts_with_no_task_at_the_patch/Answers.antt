use Rattle.std.proofs.Common.{rules}
use Rattle.klp_model.proofs.examples.an_enabling_starts_with_no_task_at_the_patch.Goals as goal

pub returns-clause-enabled : goal.returns-clause-enabled
returns-clause-enabled c = search rules
