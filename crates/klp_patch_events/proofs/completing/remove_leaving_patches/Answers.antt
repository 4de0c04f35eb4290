use Rattle.klp_manager_state.specs.Rows.{rows_in}
use Rattle.klp_manager_state.proofs.RowLemmas.{world_back}
use Rattle.klp_patch_events.proofs.completing.remove_leaving_patches.Goals as goal

pub returns-then-not-moving-clause-logged : goal.returns-then-not-moving-clause-logged
returns-then-not-moving-clause-logged g c =
    world_back c.args.state.now.world c.drop_states.new.self c.args.state.now.log c.drop_states.new.log _ (c.what_is_logged_is_of_the_world.ensures.drop c.args.state.now.world c.args.moving.now.patch) c.drop_states.ensures.changes.records
    c.drop_states.ensures.changes.undo c.drop_states.ensures.changes.effective (rows_in c.args.state.now)

pub returns-then-is_cumulative-clause-logged : goal.returns-then-is_cumulative-clause-logged
returns-then-is_cumulative-clause-logged g c = c.drop_older.ensures.logged (rows_in c.args.state.now)
