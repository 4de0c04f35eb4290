use Rattle.std.proofs.Common.{sym, ◌∙◌, refl}
use Rattle.klp_types.specs.declared.task.Task.{Task}
use Rattle.klp_types.specs.declared.task.Mode.TheVariants.{Kernel, Asleep}
use Rattle.klp_model.specs.declared.event.Event.TheVariants.{Sleep}
use Rattle.klp_model.specs.declared.event.Reply.TheVariants.{Done}
use Rattle.klp_manager_state.specs.Managed.{state_in}
use Rattle.klp_model.specs.Task.{task_at}
use Rattle.klp_tasks.specs.Changes.{record_of}
use Rattle.klp_task_shadow_events.proofs.TakenLemmas.{refused_taken}
use Rattle.klp_task_shadow_events.proofs.TaskLemmas.{task_taken, changed_as_said}
use Rattle.klp_task_shadow_events.proofs.LoggedLemmas.{task_logged, turned}
use Rattle.klp_task_shadow_events.proofs.tasks.sleep.Goals as goal

pub returns-in-Some-clause-taken : goal.returns-in-Some-clause-taken
returns-in-Some-clause-taken g c =
    refused_taken c.steps_keep.ensures c.args.state.now c.args.catalog.now (Sleep c.args.task c.args.frames.now) c.in-Some.refusal c.requires (sym c.in-Some.is ∙ c.sleep_refusal.ensures.refusal)

pub returns-clause-taken : goal.returns-clause-taken
returns-clause-taken g c =
    task_taken c.changes_of_one_kind_are_taken.ensures.tasks c.steps_keep.ensures c.args.state.now c.args.catalog.now c.sleep.new.self c.log_alone.new.log (record_of c.args.task (task_at c.args.state.now.tasks c.args.task)) (Sleep c.args.task c.args.frames.now) Done c.requires
    (sym c.in_default.is ∙ c.sleep_refusal.ensures.refusal) refl
    (changed_as_said c.rows_change_as_the_step_says.ensures (state_in c.args.state.now c.args.catalog.now) c.args.task (λ (t : Task). record t { mode = Asleep; frames = c.args.frames.now }) c.sleep.new.self Done c.sleep.ensures.tasks)
    c.log_alone.ensures

pub returns-clause-logged : goal.returns-clause-logged
returns-clause-logged g c = task_logged c.what_is_logged_gives_the_rows_back.ensures.tasks c.args.state.now c.sleep.new.self _ c.log_alone.new.log c.args.task (record_of c.args.task (task_at c.args.state.now.tasks c.args.task)) Done c.sleep.ensures c.log_alone.ensures
    (turned Kernel (λ (t : Task). record t { mode = Asleep; frames = c.args.frames.now }) (λ t. refl) c.args.state.now.tasks c.sleep.new.self _ c.args.task (record_of c.args.task (task_at c.args.state.now.tasks c.args.task)) c.sleep.ensures refl c.in_default.ensures.mode)
