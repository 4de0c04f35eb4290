use Rattle.std.proofs.Common.{refl}
use Rattle.klp_journal.proofs.examples.words_are_counted_by_their_tags.Goals as goal

pub returns-clause-no_task : goal.returns-clause-no_task
returns-clause-no_task c = refl

pub returns-clause-task : goal.returns-clause-task
returns-clause-task c = refl

pub returns-clause-moving : goal.returns-clause-moving
returns-clause-moving c = refl
