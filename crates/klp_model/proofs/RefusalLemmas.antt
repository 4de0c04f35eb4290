-- What is known of an event that nothing refuses.
use Rattle.std.proofs.Common.{◌≡◌, Bool, true, false, cond, List, [], ◌∷◌, Option, Some, None, is_none, refl}
use Rattle.klp_model.specs.declared.event.Event.{Event}
use Rattle.klp_model.specs.declared.event.Reply.{Reply}
use Rattle.klp_model.specs.declared.event.Refusal.{Refusal}
use Rattle.klp_types.specs.FirstOf.{first_of, unless}
use Rattle.klp_types.specs.Setting.{Setting}
use Rattle.klp_model.specs.State.{State}
use Rattle.klp_model.specs.Step.{accepted}
use Rattle.klp_model.specs.Refusals.{accepts, refusal, NoneHolds}
use Rattle.klp_model.specs.Run.{next, state_after}

pub none_holds : (cases : List (Bool × Refusal)) → is_none (first_of cases) ≡ true → NoneHolds cases
none_holds [] e = tt
none_holds (case ∷ cases) e = by case.0 refl e (none_holds cases)
  where
    by : (t : Bool) → case.0 ≡ t → is_none (cond t (Some case.1) (first_of cases)) ≡ true → (is_none (first_of cases) ≡ true → NoneHolds cases)
        → (case.0 ≡ false) × NoneHolds cases
    by true is e rest = cc
    by false is e rest = (is, rest e)

after_none : (state : State) (outcome : Reply × State) (reason : Option Refusal) → is_none reason ≡ true → state_after state (unless reason outcome) ≡ outcome.1
after_none state outcome None e = refl
after_none state outcome (Some reason) e = cc

pub next_accepted : (setting : Setting) (state : State) (event : Event) → accepts setting state event ≡ true
    → next setting state event ≡ (accepted setting state event).1
next_accepted setting state event e = after_none state (accepted setting state event) (refusal setting state event) e

after_some : (state : State) (outcome : Reply × State) (reason : Option Refusal) → is_none reason ≡ false → state_after state (unless reason outcome) ≡ state
after_some state outcome None e = cc
after_some state outcome (Some reason) e = refl

pub next_refused : (setting : Setting) (state : State) (event : Event) → accepts setting state event ≡ false → next setting state event ≡ state
next_refused setting state event e = after_some state (accepted setting state event) (refusal setting state event) e
