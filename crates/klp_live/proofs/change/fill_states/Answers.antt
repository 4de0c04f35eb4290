use Rattle.std.proofs.Common.{None, arith, ◌∙◌}
use Rattle.std.proofs.lemmas.List.{length-set}
use Rattle.klp_live.specs.Dispatch.{own_state}
use Rattle.klp_live.proofs.Tables.{set_next}
use Rattle.klp_live.proofs.change.fill_states.Goals as goal

pub loop-task-preserved : goal.loop-task-preserved
loop-task-preserved g c =
    let len = c.loop-task.invariant.0 in
    let before = c.loop-task-test.true in (
      length-set c.loop-task.states c.loop-task.task _ ∙ len,
      set_next c.loop-task.states None (own_state (g.M.Machine.journaled c.args.machine.now).managed.state) c.loop-task.task _ (omega arith) c.patch_state.ensures c.loop-task.invariant.1,
    )
