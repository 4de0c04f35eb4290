-- What is seen behind events that are taken back.
use Rattle.std.proofs.Common.{◌≡◌, ◌⊎◌, ℕ, Bool, true, false, not, List, Option, Some, None, refl, sym, ap, subst, ◌∙◌, inl, inr}
use Rattle.std.specs.Prelude.{is_some, unwrap_or}
use Rattle.klp_types.specs.declared.shadow.ShadowKey.{ShadowKey}
use Rattle.klp_types.specs.World.{ShadowValue, variable, state_value}
use Rattle.klp_model.specs.declared.event.Event.{Event}
use Rattle.klp_core.specs.Journaled.{Journaled}
use Rattle.klp_core.specs.Taking.{AreTaken}
use Rattle.klp_lint.specs.Behind.{IsSeenBehind}
use Rattle.klp_lint_findings.specs.Claims.{loading, replacing, withdrawing, IsThereBehind, StaysSo, IsSet, IsSetBehind}
use Rattle.klp_lint_findings.specs.Standing.{Standing, standing, LeadsTo}
use Rattle.klp_lint_together.specs.Kept.{IsAsBefore}
use Rattle.klp_lint_together.specs.Lost.{IsValueLost}
use Rattle.klp_lint_together.proofs.KeptLemmas.{same_standing}

-- what a variable has behind events is whether it is there
pub seen_there : (before after : Journaled) (events : List Event) (key : ShadowKey) (value : Option ShadowValue) (there : Bool)
    → IsSeenBehind before after events key value → there ≡ is_some value → IsThereBehind (standing before) events key there
seen_there before after events key value there seen is = (
  seen.there,
  record { start = before; is_here = refl; counts = seen.counts; taken = seen.taken },
  sym (ap is_some seen.seen) ∙ sym is,
)

-- the same of a manager that is as before
pub there_before : {before now : Journaled} (events : List Event) (key : ShadowKey) (there : Bool) → IsAsBefore before now
    → IsThereBehind (standing now) events key there → IsThereBehind (standing before) events key there
there_before events key there kept behind = subst (λ (here : Standing). IsThereBehind here events key there) (same_standing kept) behind

-- a system state that isn't 0 is set
set_of : (value : Option ℕ) → (unwrap_or value 0 ≡ 0 → ⊥) → IsSet value
set_of None differs = differs refl
set_of (Some value) differs = differs

pub set_lost : (here : Standing) (patch id : ℕ) (value : Option ℕ) → (unwrap_or value 0 ≡ 0 → ⊥) → IsValueLost here patch id value
    → IsSet (state_value here.state.world patch id) ⊎ IsSetBehind here (loading patch) patch id
set_lost here patch id value differs (inl now) = inl (subst IsSet now (set_of value differs))
set_lost here patch id value differs (inr (last, leads, is)) = inr (last, leads, subst IsSet is (set_of value differs))

pub not_true : (b : Bool) → not b ≡ true → b ≡ false
not_true true is = absurd (cc)
not_true false is = refl

none_there : (value : Option ShadowValue) (there : Bool) → there ≡ is_some value → there ≡ false → value ≡ None
none_there None there is missing = refl
none_there (Some value) there is missing = absurd (cc)

-- a variable that wasn't there is left
pub leaves_so : (here : Standing) (patch other : ℕ) (key : ShadowKey) (events : List Event) (value : Option ShadowValue) (there : Bool)
    → value ≡ variable here.state.world key → there ≡ is_some value → there ≡ false → events ≡ replacing other patch
    → StaysSo here events key (not there) → (variable here.state.world key ≡ None) × StaysSo here (replacing other patch) key true
leaves_so here patch other key events value there seen is missing these stays = (
  sym seen ∙ none_there value there is missing,
  subst (λ (es : List Event). StaysSo here es key true) these (subst (λ (b : Bool). StaysSo here events key (not b)) missing stays),
)

-- a variable that was there is lost, though the other patch would put it back
pub loses_so : (before now : Journaled) (patch other : ℕ) (key : ShadowKey) (events alone : List Event) (value : Option ShadowValue) (was there : Bool)
    → value ≡ variable before.managed.state.world key → was ≡ is_some value → was ≡ true → events ≡ replacing other patch → alone ≡ withdrawing other
    → StaysSo (standing before) events key (not was) → IsAsBefore before now → IsThereBehind (standing now) alone key there → there ≡ true
    → (is_some (variable before.managed.state.world key) ≡ true) × StaysSo (standing before) (replacing other patch) key false
    × IsThereBehind (standing before) (withdrawing other) key true
loses_so before now patch other key events alone value was there seen is before_too these those stays kept behind back = (
  sym (ap is_some seen) ∙ sym is ∙ before_too,
  subst (λ (es : List Event). StaysSo (standing before) es key false) these
      (subst (λ (b : Bool). StaysSo (standing before) events key (not b)) before_too stays),
  subst (λ (es : List Event). IsThereBehind (standing before) es key true) those
      (subst (λ (b : Bool). IsThereBehind (standing before) alone key b) back (there_before alone key there kept behind)),
)
