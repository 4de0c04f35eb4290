use Rattle.klp_tasks.proofs.ListedLemmas.{listed}
use Rattle.klp_tasks.proofs.laws.every_set_is_that_of_a_list.Goals as goal

pub returns : goal.returns
returns c = listed
