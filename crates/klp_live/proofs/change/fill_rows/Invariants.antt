use Rattle.std.proofs.Common.{◌≡◌, ℕ, ◌<◌, None, slice_index_or, length}
use Rattle.klp_model.specs.Rows.{row_of}
use Rattle.klp_manager_state.specs.Managed.{setting_of}
use Rattle.klp_live.proofs.change.fill_rows.Given as goal

abbrev pub invariant-loop-site : goal.invariant-loop-site
invariant-loop-site g l = (length l.rows ≡ 256) × ((site : ℕ) → site < l.site → slice_index_or l.rows site None ≡ row_of (setting_of (g.M.Machine.journaled l.machine).managed) (g.M.Machine.journaled l.machine).managed.state site)
