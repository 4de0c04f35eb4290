use Rattle.std.proofs.Common.{sym, ◌∙◌, refl}
use Rattle.klp_model.specs.declared.event.Event.TheVariants.{ExitToUser}
use Rattle.klp_model.specs.declared.event.Reply.TheVariants.{Done}
use Rattle.klp_model.specs.TaskStep.{exited}
use Rattle.klp_types.specs.declared.task.Mode.TheVariants.{Kernel}
use Rattle.klp_manager_state.specs.Managed.{state_in}
use Rattle.klp_model.specs.Task.{task_at}
use Rattle.klp_tasks.specs.Changes.{record_of}
use Rattle.klp_task_shadow_events.proofs.TakenLemmas.{refused_taken}
use Rattle.klp_task_shadow_events.proofs.TaskLemmas.{task_taken, changed_as_said}
use Rattle.klp_task_shadow_events.proofs.LoggedLemmas.{task_logged, turned, left_kernel}
use Rattle.klp_task_shadow_events.proofs.tasks.exit_to_user.Goals as goal

pub returns-in-Some-clause-taken : goal.returns-in-Some-clause-taken
returns-in-Some-clause-taken c = λ catalog holds.
    refused_taken c.steps_keep.ensures c.args.state.now catalog (ExitToUser c.args.task) c.in-Some.refusal holds (sym c.in-Some.is ∙ c.exit_to_user_refusal.ensures.refusal catalog)

pub returns-clause-taken : goal.returns-clause-taken
returns-clause-taken c = λ catalog holds.
    task_taken c.changes_of_one_kind_are_taken.ensures.tasks c.steps_keep.ensures c.args.state.now catalog c.leave.new.self c.log_alone.new.log (record_of c.args.task (task_at c.args.state.now.tasks c.args.task)) (ExitToUser c.args.task) Done holds
    (sym c.in_default.is ∙ c.exit_to_user_refusal.ensures.refusal catalog) refl
    (changed_as_said c.rows_change_as_the_step_says.ensures (state_in c.args.state.now catalog) c.args.task (exited c.args.state.now.moving) c.leave.new.self Done c.leave.ensures.tasks)
    c.log_alone.ensures

pub returns-clause-logged : goal.returns-clause-logged
returns-clause-logged c = task_logged c.what_is_logged_gives_the_rows_back.ensures.tasks c.args.state.now c.leave.new.self _ c.log_alone.new.log c.args.task (record_of c.args.task (task_at c.args.state.now.tasks c.args.task)) Done c.leave.ensures c.log_alone.ensures
    (turned Kernel (exited c.args.state.now.moving) (left_kernel c.args.state.now.moving) c.args.state.now.tasks c.leave.new.self _ c.args.task (record_of c.args.task (task_at c.args.state.now.tasks c.args.task)) c.leave.ensures refl c.in_default.ensures.mode)
