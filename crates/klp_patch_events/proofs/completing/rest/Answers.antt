use Rattle.std.proofs.Common.{◌∙◌}
use Rattle.klp_manager_state.specs.Rows.{rows_in}
use Rattle.klp_manager_state.proofs.RowLemmas.{switched_back}
use Rattle.klp_patch_events.proofs.completing.rest.Goals as goal

pub returns-clause-logged : goal.returns-clause-logged
returns-clause-logged c =
    c.set_moving.ensures.logged
    ∙ switched_back c.args.state.now.tasks c.set_all.new.self _ c.args.state.now.log c.set_all.new.log c.set_all.ensures.tasks c.set_all.ensures.records c.set_all.ensures.undo (rows_in c.args.state.now)
