-- What taking events back leaves.
use Rattle.std.specs.Prelude.{◌≡◌, ℕ, take}
use Rattle.klp_model.specs.Legal.{state_after_history}
use Rattle.klp_manager_state.specs.Managed.{setting_of}
use Rattle.klp_core.specs.Journaled.{Journaled, history_in}

-- The first `mark` events are left, and the state is the one that they lead to from the base. The image stays, and so
-- does the catalog with its counts of callbacks, since none has run.
pub record IsRewound (before after : Journaled) (mark : ℕ) : Type 0 where
  pub groups : after.groups ≡ take mark before.groups
  pub base : after.base ≡ before.base
  pub image : after.managed.image ≡ before.managed.image
  pub catalog : after.managed.catalog ≡ before.managed.catalog
  pub state : after.managed.state ≡ state_after_history (setting_of before.managed) before.base (history_in (take mark before.groups))
