use Rattle.std.proofs.Common.{sym, ◌∙◌, refl}
use Rattle.klp_model.specs.declared.event.Event.TheVariants.{Fork}
use Rattle.klp_model.specs.declared.event.Reply.TheVariants.{Done}
use Rattle.klp_model.specs.Task.{task_at}
use Rattle.klp_tasks.specs.Changes.{record_of}
use Rattle.klp_task_shadow_events.proofs.TakenLemmas.{refused_taken}
use Rattle.klp_task_shadow_events.proofs.TaskLemmas.{task_taken}
use Rattle.klp_task_shadow_events.proofs.LoggedLemmas.{task_logged, came}
use Rattle.klp_task_shadow_events.proofs.tasks.fork.Goals as goal

pub returns-in-Some-clause-taken : goal.returns-in-Some-clause-taken
returns-in-Some-clause-taken c = λ catalog holds.
    refused_taken c.steps_keep.ensures c.args.state.now catalog (Fork c.args.parent c.args.child) c.in-Some.refusal holds (sym c.in-Some.is ∙ c.fork_refusal.ensures.refusal catalog)

pub returns-clause-taken : goal.returns-clause-taken
returns-clause-taken c = λ catalog holds.
    task_taken c.changes_of_one_kind_are_taken.ensures.tasks c.steps_keep.ensures c.args.state.now catalog c.fork.new.self c.log_alone.new.log (record_of c.args.child (task_at c.args.state.now.tasks c.args.child)) (Fork c.args.parent c.args.child) Done holds
    (sym c.in_default.is ∙ c.fork_refusal.ensures.refusal catalog) refl
    (rw c.fork.ensures.tasks refl)
    c.log_alone.ensures

pub returns-clause-logged : goal.returns-clause-logged
returns-clause-logged c = task_logged c.what_is_logged_gives_the_rows_back.ensures.tasks c.args.state.now c.fork.new.self _ c.log_alone.new.log c.args.child (record_of c.args.child (task_at c.args.state.now.tasks c.args.child)) Done c.fork.ensures c.log_alone.ensures
    (came c.args.state.now.tasks c.fork.new.self _ c.args.child (record_of c.args.child (task_at c.args.state.now.tasks c.args.child)) _ c.fork.ensures refl c.in_default.ensures.within c.in_default.ensures.free)
