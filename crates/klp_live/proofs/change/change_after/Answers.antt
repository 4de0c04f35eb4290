use Rattle.std.proofs.Common.{rules, arith, ◌≡◌, Some, sym, subst, Option, ℤ}
use Rattle.klp_manager_state.specs.Managed.{setting_of}
use Rattle.klp_live.specs.Dispatch.{IsDispatch, task_of, changed}
use Rattle.klp_live.specs.declared.table.Change.TheVariants.{Task as OfTask}
use Rattle.klp_live.proofs.Deltas.{task_changes}
use Rattle.klp_live.proofs.change.change_after.Goals as goal

pub returns-in-Some-clause-leads : goal.returns-in-Some-clause-leads
returns-in-Some-clause-leads g c before table was_moving is was =
    let m = (g.M.Machine.journaled c.args.machine.now).managed in
    let of : task_of c.args.event.now ≡ Some c.in-Some.task = search rules in
    subst (λ (x : Option ℤ). IsDispatch (setting_of m) m.state (changed table (OfTask c.in-Some.task x))) (sym c.patch_state.ensures)
    (task_changes (setting_of m) before m.state c.args.event.now table c.in-Some.task (omega (arith, c.from.ensures, c.if-from-lt-MAX_TASKS.true)) of is was)
