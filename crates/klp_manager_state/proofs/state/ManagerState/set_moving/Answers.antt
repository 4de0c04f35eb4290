use Rattle.std.proofs.Common.{◌≡◌, sym, ap, ◌∙◌, [], ◌∷◌}
use Rattle.klp_types.specs.declared.record.Record.{Record}
use Rattle.klp_sites.specs.Changes.{noting}
use Rattle.klp_manager_state.specs.Rows.{rows_in, row_of_moving}
use Rattle.klp_manager_state.proofs.RowLemmas.{moving_back}
use Rattle.klp_manager_state.proofs.state.ManagerState.set_moving.Goals as goal
use Rattle.klp_manager_state.proofs.state.ManagerState.set_moving.Goals.{in-Some, in-None}

pub returns-clause-logged : goal.returns-clause-logged
returns-clause-logged c =
    let row : c.match-self.row ≡ row_of_moving c.args.self.now.moving =
    elim c.match-self.branch [
      | in-Some w ↦ w.row-is ∙ ap row_of_moving (sym w.in-Some.is)
      | in-None w ↦ w.row-is ∙ ap row_of_moving (sym w.in-None.is)
    ]
    in
    moving_back c.args.self.now.moving c.args.moving c.args.self.now.log c.note.new.self
    (c.note.ensures ∙ ap (λ (row : Record). noting c.args.self.now.log (row ∷ [])) row) c.requires.other (rows_in c.args.self.now)
