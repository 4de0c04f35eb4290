use Rattle.klp_model.specs.Task.{task_at}
use Rattle.klp_tasks.proofs.TaskLemmas.{step_changes}
use Rattle.klp_tasks.proofs.laws.rows_change_as_the_step_says.Goals as goal

pub returns : goal.returns
returns c = λ state number f. step_changes state number f (task_at state.tasks number)
