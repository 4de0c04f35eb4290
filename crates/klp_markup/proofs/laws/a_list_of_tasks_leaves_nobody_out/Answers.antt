use Rattle.klp_markup.proofs.TasksLemmas.{few_are_all_named, many_are_counted}
use Rattle.klp_markup.proofs.laws.a_list_of_tasks_leaves_nobody_out.Goals as goal

pub returns-clause-few : goal.returns-clause-few
returns-clause-few c = few_are_all_named

pub returns-clause-many : goal.returns-clause-many
returns-clause-many c = many_are_counted
