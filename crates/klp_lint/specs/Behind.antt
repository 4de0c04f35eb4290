-- What is answered behind events that are all taken back again.
use Rattle.std.specs.Prelude.{◌≡◌, ℕ, List, Option, Result}
use Rattle.klp_types.specs.declared.shadow.ShadowKey.{ShadowKey}
use Rattle.klp_types.specs.World.{ShadowValue, variable}
use Rattle.klp_model.specs.declared.event.Event.{Event}
use Rattle.klp_model.specs.declared.event.Reply.{Reply}
use Rattle.klp_model.specs.declared.event.Refusal.{Refusal}
use Rattle.klp_manager_state.specs.Managed.{setting_of}
use Rattle.klp_core.specs.Journaled.{Journaled}
use Rattle.klp_core.specs.Taking.{IsTaken, AreTaken}

-- `after` is `before` again, though events led from it to `last`: only the counts of the callbacks that ran are those of `last`.
pub record IsBack (before last after : Journaled) : Type 0 where
  pub image : after.managed.image ≡ before.managed.image
  pub state : after.managed.state ≡ before.managed.state
  pub base : after.base ≡ before.base
  pub groups : after.groups ≡ before.groups
  pub catalog : after.managed.catalog ≡ last.managed.catalog

-- The events were taken one after another, `event` behind them with this result, and all of it was taken back.
pub record IsAnsweredBehind (before after : Journaled) (events : List Event) (event : Event) (result : Result Reply Refusal) : Type 0 where
  pub there : Journaled
  pub last : Journaled
  pub counts : ℕ × ℕ
  pub taken : AreTaken before there events counts
  pub setting : setting_of there.managed ≡ setting_of before.managed
  pub answered : IsTaken there last event result
  pub back : IsBack before last after

-- The events were taken one after another, the variable had this value then, and all of it was taken back.
pub record IsSeenBehind (before after : Journaled) (events : List Event) (key : ShadowKey) (value : Option ShadowValue) : Type 0 where
  pub there : Journaled
  pub counts : ℕ × ℕ
  pub taken : AreTaken before there events counts
  pub setting : setting_of there.managed ≡ setting_of before.managed
  pub seen : value ≡ variable there.managed.state.world key
  pub back : IsBack before there after
