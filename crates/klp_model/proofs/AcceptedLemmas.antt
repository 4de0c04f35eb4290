-- A run is the run of its accepted events.
use Rattle.std.proofs.Common.{◌≡◌, ℕ, Bool, true, false, cond, List, [], ◌∷◌, Option, Some, None, is_none, refl, sym, ap, subst, ◌∙◌, append-nil}
use Rattle.klp_types.specs.declared.shadow.ShadowKey.{ShadowKey}
use Rattle.klp_model.specs.declared.event.Event.{Event}
use Rattle.klp_model.specs.declared.event.Reply.{Reply}
use Rattle.klp_model.specs.declared.event.Refusal.{Refusal}
use Rattle.klp_types.specs.FirstOf.{unless}
use Rattle.klp_types.specs.Setting.{Setting}
use Rattle.klp_types.specs.World.{variable}
use Rattle.klp_model.specs.State.{State, is_installed}
use Rattle.klp_model.specs.ShadowStep.{shadow_changes}
use Rattle.klp_model.specs.Step.{accepted}
use Rattle.klp_model.specs.Refusals.{accepts, refusal}
use Rattle.klp_model.specs.Run.{next, run, state_after, accepted_events}
use Rattle.klp_model.specs.Footprint.{SameFootprint}
use Rattle.klp_model.specs.Company.{company_keys, IsFairCompany}
use Rattle.klp_model.proofs.TripLemmas.{round_trip, shadow_outside}

pub refused_stays : (state : State) (outcome : Reply × State) (reason : Option Refusal) → is_none reason ≡ false → state_after state (unless reason outcome) ≡ state
refused_stays state outcome None e = cc
refused_stays state outcome (Some reason) e = refl

pub run-accepted_events : (setting : Setting) (state : State) (events : List Event) → run setting state (accepted_events setting state events) ≡ run setting state events
run-accepted_events setting state [] = refl
run-accepted_events setting state (event ∷ events) = by (accepts setting state event) refl (run-accepted_events setting (next setting state event) events)
  where
    by : (t : Bool) → accepts setting state event ≡ t
        → run setting (next setting state event) (accepted_events setting (next setting state event) events) ≡ run setting (next setting state event) events
        → run setting state (cond t (event ∷ accepted_events setting (next setting state event) events) (accepted_events setting (next setting state event) events))
        ≡ run setting (next setting state event) events
    by true is rest = rest
    by false is rest =
        ap (λ s. run setting s (accepted_events setting (next setting state event) events)) (sym (refused_stays state (accepted setting state event) (refusal setting state event) is)) ∙ rest

-- at the end of a fair company
pub round_trip_end : (setting : Setting) (patch : ℕ) (start : State) (events : List Event) → IsFairCompany setting patch start events
    → is_installed (run setting start events) patch ≡ false → SameFootprint setting (company_keys setting start patch) (run setting start events) start
round_trip_end setting patch start events fair away =
    round_trip setting patch start events [] (subst (IsFairCompany setting patch start) (sym (append-nil events)) fair) away

-- the round trip of any list of events, by those that aren't refused
pub round_trip_run : (setting : Setting) (patch : ℕ) (start : State) (events : List Event) → IsFairCompany setting patch start (accepted_events setting start events)
    → is_installed (run setting start events) patch ≡ false
    → SameFootprint setting (company_keys setting start patch) (run setting start events) start
round_trip_run setting patch start events fair away =
    let same = run-accepted_events setting start events in
    subst (λ state. SameFootprint setting (company_keys setting start patch) state start) same
    (round_trip setting patch start (accepted_events setting start events) []
    (subst (IsFairCompany setting patch start) (sym (append-nil (accepted_events setting start events))) fair)
    (ap (λ s. is_installed s patch) same ∙ away))

pub shadow_outside_run : (setting : Setting) (patch : ℕ) (start : State) (events : List Event) → IsFairCompany setting patch start (accepted_events setting start events)
    → (key : ShadowKey) → company_keys setting start patch key ≡ false
    → variable (run setting start events).world key ≡ variable (shadow_changes start.world (accepted_events setting start events)) key
shadow_outside_run setting patch start events fair key out =
    ap (λ (s : State). variable s.world key) (sym (run-accepted_events setting start events))
    ∙ shadow_outside setting patch start (accepted_events setting start events) []
    (subst (IsFairCompany setting patch start) (sym (append-nil (accepted_events setting start events))) fair) key out
