use Rattle.std.proofs.Common.{◌≡◌, refl, ap, arith, rules, ◌∙◌}
use Rattle.std.proofs.lemmas.Grind.{common_steps}
use Rattle.klp_types.specs.declared.task.Task.{Task}
use Rattle.klp_types.specs.declared.task.Mode.TheVariants.{User}
use Rattle.klp_model.specs.Task.{task_at, with_task}
use Rattle.klp_model.specs.TaskStep.{exited}
use Rattle.std.specs.Prelude.{Some}
use Rattle.klp_tasks.proofs.TaskLemmas.{is_changed}
use Rattle.klp_tasks.proofs.FrameLemmas.{frames_stay}
use Rattle.klp_tasks.proofs.NumberLemmas.{taken_stay}
use Rattle.klp_tasks.proofs.tasks.Tasks.leave.Goals as goal
use Rattle.klp_tasks.proofs.tasks.Tasks.leave.Goals.{in-Some-moving, in_default-moving}

pub invariant_of-self : goal.invariant_of-self
invariant_of-self c =
    let there : task_at c.self.inside.rows.items c.from.result ≡ Some c.in-Some.row = grind (arith, common_steps, rules) in
    let same : c.match-moving.row.frames ≡ c.in-Some.row.frames =
    elim c.match-moving.branch [
      | in-Some-moving w ↦ ap (λ (r : Task). r.frames) w.row-is
      | in_default-moving w ↦ ap (λ (r : Task). r.frames) w.row-is
    ] in
    (c.self.invariant.0, c.self.invariant.1, c.self.invariant.2 ∙ frames_stay c.self.inside.rows.items c.from.result c.in-Some.row _ there same, taken_stay c.self.inside.numbers.bits c.self.inside.rows.items c.from.result c.in-Some.row _ there c.self.invariant.3)

pub returns : goal.returns
returns c =
    let there : task_at c.args.self.now c.args.task ≡ Some c.in-Some.row = grind (arith, common_steps, rules) in
    let row : record c.match-moving.row { mode = User } ≡ exited c.args.moving c.in-Some.row =
    elim c.match-moving.branch [
      | in-Some-moving w ↦ rw (w.row-is, w.in-Some-moving.is, w.target_state-row.ensures) refl
      | in_default-moving w ↦ rw (w.row-is, w.in_default-moving.is) refl
    ] in
    is_changed c.args.self.now _ c.args.task (exited c.args.moving) c.in-Some.row there
    (rw (c.from.ensures, c.task.view_is, c.self.view_is) (ap (λ (r : Task). with_task c.args.self.now c.args.task (Some r)) row))
