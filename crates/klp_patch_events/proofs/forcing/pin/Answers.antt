use Rattle.klp_manager_state.specs.Rows.{rows_in}
use Rattle.klp_patch_events.proofs.forcing.pin.Goals as goal

pub returns-then-not-moving-clause-logged : goal.returns-then-not-moving-clause-logged
returns-then-not-moving-clause-logged g c = c.pin.ensures.logged (rows_in c.args.state.now)

pub returns-then-is_cumulative-clause-logged : goal.returns-then-is_cumulative-clause-logged
returns-then-is_cumulative-clause-logged g c = c.pin_others.ensures.logged (rows_in c.args.state.now)
