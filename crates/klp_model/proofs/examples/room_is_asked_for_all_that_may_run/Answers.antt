use Rattle.std.proofs.Common.{rules}
use Rattle.klp_model.proofs.examples.room_is_asked_for_all_that_may_run.Goals as goal

pub returns-clause-enabling : goal.returns-clause-enabling
returns-clause-enabling c = search rules

pub returns-clause-pending : goal.returns-clause-pending
returns-clause-pending c = search rules
