use Rattle.std.proofs.Common.{sym, ◌∙◌, refl}
use Rattle.klp_model.specs.declared.event.Event.TheVariants.{NewTask}
use Rattle.klp_model.specs.declared.event.Reply.TheVariants.{Done}
use Rattle.klp_model.specs.Task.{task_at}
use Rattle.klp_tasks.specs.Changes.{record_of}
use Rattle.klp_task_shadow_events.proofs.TakenLemmas.{refused_taken}
use Rattle.klp_task_shadow_events.proofs.TaskLemmas.{task_taken}
use Rattle.klp_task_shadow_events.proofs.LoggedLemmas.{task_logged, came}
use Rattle.klp_task_shadow_events.proofs.tasks.new_task.Goals as goal

pub returns-in-Some-clause-taken : goal.returns-in-Some-clause-taken
returns-in-Some-clause-taken c = λ catalog holds.
    refused_taken c.steps_keep.ensures c.args.state.now catalog (NewTask c.args.task) c.in-Some.refusal holds (sym c.in-Some.is ∙ c.new_task_refusal.ensures.refusal catalog)

pub returns-clause-taken : goal.returns-clause-taken
returns-clause-taken c = λ catalog holds.
    task_taken c.changes_of_one_kind_are_taken.ensures.tasks c.steps_keep.ensures c.args.state.now catalog c.add.new.self c.log_alone.new.log (record_of c.args.task (task_at c.args.state.now.tasks c.args.task)) (NewTask c.args.task) Done holds
    (sym c.in_default.is ∙ c.new_task_refusal.ensures.refusal catalog) refl
    (rw (c.add.ensures.tasks, c.state_wanted.ensures) refl)
    c.log_alone.ensures

pub returns-clause-logged : goal.returns-clause-logged
returns-clause-logged c = task_logged c.what_is_logged_gives_the_rows_back.ensures.tasks c.args.state.now c.add.new.self _ c.log_alone.new.log c.args.task (record_of c.args.task (task_at c.args.state.now.tasks c.args.task)) Done c.add.ensures c.log_alone.ensures
    (came c.args.state.now.tasks c.add.new.self _ c.args.task (record_of c.args.task (task_at c.args.state.now.tasks c.args.task)) _ c.add.ensures refl c.in_default.ensures.within c.in_default.ensures.free)
