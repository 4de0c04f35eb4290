-- Putting back what an event logged, record by record.
use Rattle.std.specs.Prelude.{◌≡◌, ◌<◌, true, [], length}
use Rattle.klp_manager_state.specs.declared.state.ManagerState.{ManagerState}
use Rattle.klp_manager_state.specs.Rows.{rows_in, undone, are_due}

-- One record was put back. The rest give the same rows as before it, and can be put back.
pub record IsOneBack (before after : ManagerState) : Type 0 where
  pub rows : undone (rows_in after) after.log.logged ≡ undone (rows_in before) before.log.logged
  pub due : are_due (rows_in after) after.log.logged ≡ true
  pub modules : after.modules ≡ record before.modules { loaded = after.sites.loaded }
  pub objects : length after.sites.loaded ≡ length after.sites.image.objects
  pub log : record after.log { logged = [] } ≡ record before.log { logged = [] }
  pub fewer : length after.log.logged < length before.log.logged
