-- What patches that are tried leave of a manager.
use Rattle.std.specs.Prelude.{◌≡◌}
use Rattle.klp_manager_state.specs.Managed.{setting_of}
use Rattle.klp_core.specs.Journaled.{Journaled}
use Rattle.klp_core.specs.Withdrawal.{GoesOn}

-- The manager is as before, whatever was tried and taken back since. Only the counts of the callbacks that ran may differ.
pub record IsAsBefore (before after : Journaled) : Type 0 where
  pub setting : setting_of after.managed ≡ setting_of before.managed
  pub state : after.managed.state ≡ before.managed.state
  pub base : after.base ≡ before.base
  pub groups : after.groups ≡ before.groups

-- Events were done since, and none of those before was taken back.
pub record IsFurther (before after : Journaled) : Type 0 where
  pub on : GoesOn before after
  pub setting : setting_of after.managed ≡ setting_of before.managed
