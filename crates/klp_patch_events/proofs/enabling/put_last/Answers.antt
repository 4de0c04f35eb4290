use Rattle.std.proofs.Common.{ap, ◌∙◌}
use Rattle.klp_types.specs.Records.{RecordList}
use Rattle.klp_manager_state.specs.Rows.{rows_in, before_logged}
use Rattle.klp_manager_state.proofs.RowLemmas.{world_back}
use Rattle.klp_patch_events.proofs.enabling.put_last.Goals as goal

pub returns-clause-logged : goal.returns-clause-logged
returns-clause-logged g c =
    let rows = rows_in c.args.state.now in
    world_back c.args.state.now.world c.add_states.new.self c.clear.new.self c.add_states.new.log _ (c.what_is_logged_is_of_the_world.ensures.add _ _) c.add_states.ensures.changes.records
    c.add_states.ensures.changes.undo c.add_states.ensures.changes.effective rows
    ∙ ap (λ (l : RecordList). before_logged rows l) c.clear.ensures
