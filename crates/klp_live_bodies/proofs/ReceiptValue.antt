-- What one outcome says of the list.
use Rattle.std.proofs.Common.{◌≡◌, ℕ, ◌<◌, ◌≤◌, zero, suc, List, [], ◌∷◌, length, take, slice_get, Some, sym, subst, ◌∙◌, arith}
use Rattle.std.proofs.lemmas.List.{length-take-le}
use Rattle.klp_types.specs.declared.version.Version.{Version}
use Rattle.klp_types.specs.Setting.{Setting}
use Rattle.klp_model.specs.State.{State}
use Rattle.klp_model.specs.Legal.{History}
use Rattle.klp_model.specs.declared.event.Event.{Event}
use Rattle.klp_live.specs.Seats.{IsLast}
use Rattle.klp_live_bodies.specs.Receipts.{AcceptedValue}
use Rattle.klp_live_bodies.specs.declared.step.Outcome.{Outcome}
use Rattle.klp_live_bodies.specs.declared.step.Step.{Step}
use Rattle.klp_live_bodies.specs.declared.step.Step.TheVariants.{Submit, Call, Return, Nap}
use Rattle.klp_live_bodies.specs.declared.step.What.{What}
use Rattle.klp_live_bodies.specs.declared.step.What.TheVariants.{Receipt}
use Rattle.klp_live_bodies.specs.Steps.{CameTo, IsReceipt, frames_after}
use Rattle.klp_live_bodies.specs.Running.{IsDone, AreDone}

-- an outcome is one of a step, of which something was known before it
record IsOne (setting : Setting) (base : State) (task : ℕ) (list : History) (before : ℕ) (outcome : Outcome) : Type 0 where
  pub known : ℕ
  pub frames : List Version
  pub step : Step
  pub later : before ≤ known
  pub done : IsDone setting base task list known frames step outcome

one_of : (setting : Setting) (base : State) (task : ℕ) (list : History) (before : ℕ) (frames : List Version) (steps : List Step) (outcomes : List Outcome) (place : ℕ) (outcome : Outcome)
    → AreDone setting base task list before frames steps outcomes → slice_get outcomes place ≡ Some outcome → IsOne setting base task list before outcome
one_of setting base task list before frames steps [] place outcome d at = absurd cc
one_of setting base task list before frames [] (first ∷ outcomes) place outcome d at = absurd d
one_of setting base task list before frames (step ∷ steps) (first ∷ outcomes) zero outcome d at =
    let e : first ≡ outcome = cc in
    record { known = before; frames = frames; step = step; later = omega arith; done = subst (λ (o : Outcome). IsDone setting base task list before frames step o) e d.0 }
one_of setting base task list before frames (step ∷ steps) (first ∷ outcomes) (suc place) outcome d at =
    let one = one_of setting base task list first.known (frames_after frames first.what) steps outcomes place outcome d.1 at in
    record { known = one.known; frames = one.frames; step = one.step; later = (let g = d.0.grows in let l = one.later in omega arith); done = one.done }

pub is_within : (setting : Setting) (base : State) (task : ℕ) (list : History) (before : ℕ) (frames : List Version) (steps : List Step) (outcomes : List Outcome) (place : ℕ) (outcome : Outcome)
    → AreDone setting base task list before frames steps outcomes → slice_get outcomes place ≡ Some outcome → (before ≤ outcome.known) × (outcome.known ≤ length list)
is_within setting base task list before frames steps outcomes place outcome d at =
    let one = one_of setting base task list before frames steps outcomes place outcome d at in
    let g = one.done.grows in let l = one.later in (omega arith, one.done.within)

receipt_in : (setting : Setting) (base : State) (task before : ℕ) (frames : List Version) (seen : History) (step : Step) (what : What) (accepted : AcceptedValue)
    → what ≡ Receipt accepted → CameTo setting base task before frames seen step what → (event : Event) × IsReceipt before seen event accepted
receipt_in setting base task before frames seen (Submit event) what accepted is came = (event, subst (λ (w : What). CameTo setting base task before frames seen (Submit event) w) is came)
receipt_in setting base task before frames seen (Call site) what accepted is came = absurd (subst (λ (w : What). CameTo setting base task before frames seen (Call site) w) is came)
receipt_in setting base task before frames seen Return what accepted is came = absurd (subst (λ (w : What). CameTo setting base task before frames seen Return w) is came)
receipt_in setting base task before frames seen Nap what accepted is came = (_, subst (λ (w : What). CameTo setting base task before frames seen Nap w) is came)

pub is_reported : (setting : Setting) (base : State) (task : ℕ) (list : History) (before : ℕ) (frames : List Version) (steps : List Step) (outcomes : List Outcome) (place : ℕ) (outcome : Outcome) (accepted : AcceptedValue)
    → AreDone setting base task list before frames steps outcomes → slice_get outcomes place ≡ Some outcome → outcome.what ≡ Receipt accepted
    → (accepted.number ≡ outcome.known) × (before < accepted.number) × IsLast (take accepted.number list) accepted.event accepted.reply
is_reported setting base task list before frames steps outcomes place outcome accepted d at is =
    let one = one_of setting base task list before frames steps outcomes place outcome d at in
    let r = receipt_in setting base task one.known one.frames (take outcome.known list) one.step outcome.what accepted is one.done.came in
    let number : accepted.number ≡ outcome.known = r.1.number ∙ length-take-le outcome.known list one.done.within in
    let above = r.1.later in
    let l = one.later in (
      number,
      omega arith,
      subst (λ (e : Event). IsLast (take accepted.number list) e accepted.reply) (sym r.1.event_is)
          (subst (λ (n : ℕ). IsLast (take n list) r.0 accepted.reply) (sym number) r.1.well_formed),
    )

-- the outcomes behind the first, with what was known after it
behind : (setting : Setting) (base : State) (task : ℕ) (list : History) (before : ℕ) (frames : List Version) (steps : List Step) (outcomes : List Outcome) (place behind : ℕ) (earlier later : Outcome)
    → AreDone setting base task list before frames steps outcomes → slice_get outcomes place ≡ Some earlier → slice_get outcomes behind ≡ Some later → place < behind
    → IsOne setting base task list earlier.known later
behind setting base task list before frames steps [] place next earlier later d at then less = absurd cc
behind setting base task list before frames [] (first ∷ outcomes) place next earlier later d at then less = absurd d
behind setting base task list before frames (step ∷ steps) (first ∷ outcomes) place zero earlier later d at then less = absurd (omega arith)
behind setting base task list before frames (step ∷ steps) (first ∷ outcomes) zero (suc next) earlier later d at then less =
    let e : first ≡ earlier = cc in
    subst (λ (o : Outcome). IsOne setting base task list o.known later) e (one_of setting base task list first.known (frames_after frames first.what) steps outcomes next later d.1 then)
behind setting base task list before frames (step ∷ steps) (first ∷ outcomes) (suc place) (suc next) earlier later d at then less =
    behind setting base task list first.known (frames_after frames first.what) steps outcomes place next earlier later d.1 at then (omega arith)

pub is_in_order : (setting : Setting) (base : State) (task : ℕ) (list : History) (before : ℕ) (frames : List Version) (steps : List Step) (outcomes : List Outcome) (place next : ℕ) (earlier later : Outcome)
    → AreDone setting base task list before frames steps outcomes → slice_get outcomes place ≡ Some earlier → slice_get outcomes next ≡ Some later → place < next
    → earlier.known ≤ later.known
is_in_order setting base task list before frames steps outcomes place next earlier later d at then less =
    let one = behind setting base task list before frames steps outcomes place next earlier later d at then less in
    let g = one.done.grows in let l = one.later in omega arith

pub is_above : (setting : Setting) (base : State) (task : ℕ) (list : History) (before : ℕ) (frames : List Version) (steps : List Step) (outcomes : List Outcome) (place next : ℕ) (earlier later : Outcome) (accepted : AcceptedValue)
    → AreDone setting base task list before frames steps outcomes → slice_get outcomes place ≡ Some earlier → slice_get outcomes next ≡ Some later → place < next
    → later.what ≡ Receipt accepted → earlier.known < accepted.number
is_above setting base task list before frames steps outcomes place next earlier later accepted d at then less is =
    let one = behind setting base task list before frames steps outcomes place next earlier later d at then less in
    let r = receipt_in setting base task one.known one.frames (take later.known list) one.step later.what accepted is one.done.came in
    let above = r.1.later in let l = one.later in omega arith
