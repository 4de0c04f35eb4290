-- What a patch leaves behind that is no longer installed.
use Rattle.std.specs.Prelude.{◌≡◌, ℕ, false, List, ◌++◌, drop, length, map}
use Rattle.klp_types.specs.declared.shadow.ShadowKey.{ShadowKey}
use Rattle.klp_types.specs.World.{variable}
use Rattle.klp_model.specs.declared.event.Event.{Event}
use Rattle.klp_model.specs.ShadowStep.{shadow_changes}
use Rattle.klp_model.specs.State.{is_installed}
use Rattle.klp_model.specs.Company.{company_keys, IsFairCompany}
use Rattle.klp_model.specs.Footprint.{SameFootprint}
use Rattle.klp_journal.specs.Journal.{Group}
use Rattle.klp_manager_state.specs.Managed.{setting_of}
use Rattle.klp_core.specs.Journaled.{Journaled}

-- The later manager goes on from the earlier one: it has the same base, and its groups begin with those of the earlier
-- one.
pub record GoesOn (earlier later : Journaled) : Type 0 where
  pub more : List Group
  pub groups : later.groups ≡ earlier.groups ++ more
  pub base : later.base ≡ earlier.base

-- the events that were appended between the two, in order
abbrev pub appended : Journaled → Journaled → List Event
appended before after = map (λ (g : Group). g.event) (drop (length before.groups) after.groups)

-- This holds for each patch of which the appended events are a fair company. Whenever the patch isn't installed, the
-- footprint over its variables is as it was before. All other shadow variables are as the shadow events among the
-- appended events make them.
pub record LeavesNoTrace (before after : Journaled) : Type 0 where
  pub footprint : (patch : ℕ) → IsFairCompany (setting_of before.managed) patch before.managed.state (appended before after)
      → is_installed after.managed.state patch ≡ false
      → SameFootprint (setting_of before.managed) (company_keys (setting_of before.managed) before.managed.state patch) after.managed.state before.managed.state
  pub outside : (patch : ℕ) → IsFairCompany (setting_of before.managed) patch before.managed.state (appended before after)
      → (key : ShadowKey) → company_keys (setting_of before.managed) before.managed.state patch key ≡ false
      → variable after.managed.state.world key ≡ variable (shadow_changes before.managed.state.world (appended before after)) key
