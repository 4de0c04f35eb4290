use Rattle.klp_tasks.proofs.TaskLemmas.{rows_are_few}
use Rattle.klp_tasks.proofs.laws.records_are_few.Goals as goal

pub returns : goal.returns
returns c = rows_are_few
