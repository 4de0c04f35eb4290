-- The journal alone is told as full.
use Rattle.std.proofs.Common.{◌≡◌, Bool, true, false, cond, List, [], ◌∷◌, refl, ap, sym, ◌∙◌}
use Rattle.std.specs.Prelude.{◌↔◌, ◌||◌, Option, Some, None, Result, Ok, Err, is_ok}
use Rattle.std.specs.List.{list_any}
use Rattle.klp_types.specs.FirstOf.{first_of, unless}
use Rattle.klp_types.specs.Setting.{Setting}
use Rattle.klp_model.specs.declared.event.Event.{Event}
use Rattle.klp_model.specs.declared.event.Event.TheVariants.{Enable, SetEnabled, Force, Poll, Coming, Going, NewTask, Fork, EndTask, EnterKernel, ExitToUser, Sleep, Wake, ShadowAlloc, ShadowGetOrAlloc, ShadowFree, ShadowFreeAll}
use Rattle.klp_model.specs.declared.event.Reply.{Reply}
use Rattle.klp_model.specs.declared.event.Refusal.{Refusal}
use Rattle.klp_model.specs.declared.event.Refusal.TheVariants.{JournalFull}
use Rattle.klp_model.specs.Refusals.{refusals, refusal}
use Rattle.klp_model.specs.Run.{answer, answer_of}
use Rattle.klp_model.specs.State.{State}
use Rattle.klp_model.specs.Step.{accepted}
use Rattle.klp_journal.specs.Journal.{Group, has_room}
use Rattle.klp_core.specs.Taking.{unless_full, answer_in}

is_full : Refusal → Bool
is_full JournalFull = true
is_full other = false

case_is_full : Bool × Refusal → Bool
unfolding is_full
case_is_full case = is_full case.1

-- no event is refused so
none_is_full : (setting : Setting) (state : State) (event : Event) → list_any case_is_full (refusals setting state event) ≡ false
unfolding is_full case_is_full
none_is_full setting state (Enable patch) = refl
none_is_full setting state (SetEnabled patch value) = refl
none_is_full setting state (Force patch) = refl
none_is_full setting state Poll = refl
none_is_full setting state (Coming object) = refl
none_is_full setting state (Going object) = refl
none_is_full setting state (NewTask task) = refl
none_is_full setting state (Fork parent child) = refl
none_is_full setting state (EndTask task) = refl
none_is_full setting state (EnterKernel task) = refl
none_is_full setting state (ExitToUser task) = refl
none_is_full setting state (Sleep task frames) = refl
none_is_full setting state (Wake task) = refl
none_is_full setting state (ShadowAlloc key value) = refl
none_is_full setting state (ShadowGetOrAlloc key value) = refl
none_is_full setting state (ShadowFree key) = refl
none_is_full setting state (ShadowFreeAll id) = refl

full_then : (reason : Refusal) (rest : Bool) → (is_full reason || rest) ≡ false → Some reason ≡ Some JournalFull → ⊥
unfolding is_full
full_then reason rest none e =
    let same : reason ≡ JournalFull = cc in
    let own : is_full reason ≡ true = ap is_full same in absurd (cc (sym (ap (λ b. b || rest) own) ∙ none))

rest_of : (own rest : Bool) → (own || rest) ≡ false → rest ≡ false
rest_of true rest e = absurd (cc)
rest_of false rest e = e

one_is_none : (case : Bool × Refusal) (cases : List (Bool × Refusal)) → (is_full case.1 || list_any case_is_full cases) ≡ false
    → (first_of cases ≡ Some JournalFull → ⊥) → first_of (case ∷ cases) ≡ Some JournalFull → ⊥
one_is_none case cases none rest = by case.0
  where
    by : (t : Bool) → cond t (Some case.1) (first_of cases) ≡ Some JournalFull → ⊥
    by true e = full_then case.1 (list_any case_is_full cases) none e
    by false e = rest e

-- where no case is of that kind, the first that holds isn't
first_is_none : (cases : List (Bool × Refusal)) → list_any case_is_full cases ≡ false → first_of cases ≡ Some JournalFull → ⊥
unfolding case_is_full
first_is_none [] none e = cc
first_is_none (case ∷ cases) none e =
    one_is_none case cases none (first_is_none cases (rest_of (is_full case.1) (list_any case_is_full cases) none)) e

full_answer : (room : Bool) (reason : Option Refusal) (outcome : Reply × State) → (reason ≡ Some JournalFull → ⊥) → unless_full room (answer_of (unless reason outcome)) ≡ Err JournalFull
    → (is_ok (answer_of (unless reason outcome)) ≡ true) × (room ≡ false)
full_answer room (Some reason) outcome none e = let own : Some reason ≡ Some JournalFull = cc in absurd (none own)
full_answer true None outcome none e = absurd (cc)
full_answer false None outcome none e = (refl, refl)

answer_full : (room : Bool) (own : Result Reply Refusal) → (is_ok own ≡ true) × (room ≡ false) → unless_full room own ≡ Err JournalFull
answer_full room (Err refusal) h = absurd (cc h.0)
answer_full true (Ok reply) h = absurd (cc h.1)
answer_full false (Ok reply) h = refl

pub alone_is_full : (setting : Setting) (state : State) (groups : List Group) (event : Event)
    → (answer_in setting state groups event ≡ Err JournalFull) ↔ ((is_ok (answer setting state event) ≡ true) × (has_room groups ≡ false))
alone_is_full setting state groups event = (
  full_answer (has_room groups) (refusal setting state event) (accepted setting state event)
      (first_is_none (refusals setting state event) (none_is_full setting state event)),
  answer_full (has_room groups) (answer setting state event),
)
