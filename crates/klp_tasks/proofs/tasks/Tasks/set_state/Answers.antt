use Rattle.std.proofs.Common.{◌≡◌, sym, ap, ◌∙◌}
use Rattle.std.specs.Prelude.{Some}
use Rattle.klp_model.specs.Task.{task_at, in_state}
use Rattle.klp_tasks.specs.Changes.{changed_row}
use Rattle.klp_tasks.proofs.TaskLemmas.{is_switched}
use Rattle.klp_tasks.proofs.tasks.Tasks.set_state.Goals as goal

pub returns-clause-logged : goal.returns-clause-logged
returns-clause-logged c =
    let there : task_at c.args.self.now c.args.task ≡ Some c.in-Some.was.now = sym c.in-Some.ensures.task in
    is_switched c.args.self.now c.put_state.new.self c.args.task c.in-Some.was.now c.args.state c.args.log.now c.note_task.new.self there (sym c.if-has_state.ensures)
    (c.put_state.ensures ∙ ap (changed_row c.args.self.now c.args.task (in_state c.args.state)) there) c.note_task.ensures
