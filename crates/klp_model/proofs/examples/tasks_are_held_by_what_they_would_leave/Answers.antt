use Rattle.std.proofs.Common.{rules}
use Rattle.klp_model.proofs.examples.tasks_are_held_by_what_they_would_leave.Goals as goal

pub returns-clause-from_the_patch : goal.returns-clause-from_the_patch
returns-clause-from_the_patch c = search rules

pub returns-clause-over_another : goal.returns-clause-over_another
returns-clause-over_another c = search rules
