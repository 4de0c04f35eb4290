use Rattle.std.proofs.Common.{◌≡◌, refl, arith, rules, ◌∙◌}
use Rattle.std.proofs.lemmas.Grind.{common_steps}
use Rattle.klp_types.specs.declared.task.Task.{Task}
use Rattle.klp_model.specs.Task.{task_at}
use Rattle.std.specs.Prelude.{Some}
use Rattle.klp_tasks.proofs.TaskLemmas.{is_changed}
use Rattle.klp_tasks.proofs.FrameLemmas.{frames_stay}
use Rattle.klp_tasks.proofs.NumberLemmas.{taken_stay}
use Rattle.klp_tasks.proofs.tasks.Tasks.put_switched.Goals as goal

pub invariant_of-self : goal.invariant_of-self
invariant_of-self c =
    let there : task_at c.self.inside.rows.items c.from.result ≡ Some c.in-Some.row = grind (arith, common_steps, rules) in
    (c.self.invariant.0, c.self.invariant.1, c.self.invariant.2 ∙ frames_stay c.self.inside.rows.items c.from.result c.in-Some.row _ there refl, taken_stay c.self.inside.numbers.bits c.self.inside.rows.items c.from.result c.in-Some.row _ there c.self.invariant.3)

pub returns : goal.returns
returns c =
    let there : task_at c.args.self.now c.args.task ≡ Some c.in-Some.row = grind (arith, common_steps, rules) in
    (is_changed c.args.self.now _ c.args.task (λ (t : Task). record t { state = c.args.state; mode = c.args.mode }) c.in-Some.row there (rw (c.from.ensures, c.task.view_is, c.self.view_is) refl)).tasks
