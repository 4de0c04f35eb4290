-- One more step of a body.
use Rattle.std.proofs.Common.{◌≡◌, ℕ, ◌+◌, ◌<◌, Bool, true, List, [], ◌∷◌, ◌++◌, length, take, slice_get, Some, refl, ap, sym, subst, ◌∙◌, arith, append_assoc, length-append, below_more}
use Rattle.std.proofs.lemmas.List.{append-nil}
use Rattle.std.proofs.lemmas.List.{take_all}
use Rattle.std.proofs.lemmas.List.Sums.{sum_by-append}
use mathlib.Core.List.{IsPrefix}
use Rattle.klp_types.specs.declared.version.Version.{Version}
use Rattle.klp_types.specs.Setting.{Setting}
use Rattle.klp_model.specs.State.{State}
use Rattle.klp_model.specs.Legal.{History, IsLegal}
use Rattle.klp_live.specs.Passing.{Passing}
use Rattle.klp_live_bodies.specs.declared.step.Step.{Step}
use Rattle.klp_live_bodies.specs.declared.step.Outcome.{Outcome}
use Rattle.klp_live_bodies.specs.declared.fault.BodyCause.{BodyCause}
use Rattle.klp_live_bodies.specs.Steps.{CameTo, frames_after, taken_by}
use Rattle.klp_live_bodies.specs.Running.{IsDone, AreDone, IsStepped, HasRun, LetsIn, Stops, IsCutShort, known_after, frames_left}
use Rattle.klp_live_bodies.proofs.Beginnings.{begins_itself, begins_on, begins_shorter, take_of_beginning}

-- an outcome stays one where the list grows
stays_done : (setting : Setting) (base : State) (task : ℕ) (list longer : History) (before : ℕ) (frames : List Version) (step : Step) (outcome : Outcome)
    → IsPrefix list longer → IsDone setting base task list before frames step outcome → IsDone setting base task longer before frames step outcome
stays_done setting base task list longer before frames step outcome p d = record {
  grows = d.grows;
  within = let l = begins_shorter list longer p in let w = d.within in omega arith;
  came = subst (λ (seen : History). CameTo setting base task before frames seen step outcome.what) (take_of_beginning outcome.known list longer p d.within) d.came;
}

stay_done : (setting : Setting) (base : State) (task : ℕ) (list longer : History) (before : ℕ) (frames : List Version) (steps : List Step) (outcomes : List Outcome)
    → IsPrefix list longer → AreDone setting base task list before frames steps outcomes → AreDone setting base task longer before frames steps outcomes
stay_done setting base task list longer before frames steps [] p d = tt
stay_done setting base task list longer before frames [] (outcome ∷ outcomes) p d = d
stay_done setting base task list longer before frames (step ∷ steps) (outcome ∷ outcomes) p d = (
  stays_done setting base task list longer before frames step outcome p d.0,
  stay_done setting base task list longer outcome.known (frames_after frames outcome.what) steps outcomes p d.1,
)

-- one more outcome, of the next step
more_done : (setting : Setting) (base : State) (task : ℕ) (list : History) (before : ℕ) (frames : List Version) (steps : List Step) (outcomes : List Outcome) (step : Step) (outcome : Outcome)
    → AreDone setting base task list before frames steps outcomes → slice_get steps (length outcomes) ≡ Some step
    → IsDone setting base task list (known_after before outcomes) (frames_left frames outcomes) step outcome
    → AreDone setting base task list before frames steps (outcomes ++ outcome ∷ [])
more_done setting base task list before frames [] [] step outcome d at new = absurd cc
more_done setting base task list before frames (first ∷ steps) [] step outcome d at new =
    let e : step ≡ first = cc in (subst (λ (s : Step). IsDone setting base task list before frames s outcome) e new, tt)
more_done setting base task list before frames [] (other ∷ outcomes) step outcome d at new = d
more_done setting base task list before frames (first ∷ steps) (other ∷ outcomes) step outcome d at new =
    (d.0, more_done setting base task list other.known (frames_after frames other.what) steps outcomes step outcome d.1 at new)

known_after-more : (before : ℕ) (outcomes : List Outcome) (outcome : Outcome) → known_after before (outcomes ++ outcome ∷ []) ≡ outcome.known
known_after-more before [] outcome = refl
known_after-more before (other ∷ outcomes) outcome = known_after-more other.known outcomes outcome

pub frames_left-more : (frames : List Version) (outcomes : List Outcome) (outcome : Outcome)
    → frames_left frames (outcomes ++ outcome ∷ []) ≡ frames_after (frames_left frames outcomes) outcome.what
frames_left-more frames [] outcome = refl
frames_left-more frames (other ∷ outcomes) outcome = frames_left-more (frames_after frames other.what) outcomes outcome

-- nothing is done yet
pub none_run : (setting : Setting) (base : State) (pass : Passing) (steps : List Step) → IsLegal setting base pass.knows.list → HasRun setting base pass pass steps []
none_run setting base pass steps legal = record {
  task = refl;
  legal = legal;
  knew = begins_itself pass.knows.list;
  counts = omega arith;
  known = refl;
  done = tt;
}

-- a step is done after others
pub more_run : (setting : Setting) (base : State) (first before after : Passing) (frames left : List Version) (steps : List Step) (outcomes : List Outcome) (step : Step) (outcome : Outcome)
    → HasRun setting base first before steps outcomes → slice_get steps (length outcomes) ≡ Some step → frames ≡ frames_left [] outcomes
    → IsStepped setting base before after frames left step outcome
    → HasRun setting base first after steps (outcomes ++ outcome ∷ [])
more_run setting base first before after frames left steps outcomes step outcome ran at inside new =
    let whole : take outcome.known after.knows.list ≡ after.knows.list = take_all outcome.known after.knows.list (let k = new.known in omega arith) in
    let shorter = begins_shorter before.knows.list after.knows.list new.learns.knew in
    let known = ran.known in
    let now = new.known in
    let came : CameTo setting base first.task (known_after (length first.knows.list) outcomes) (frames_left [] outcomes) (take outcome.known after.knows.list) step outcome.what =
    subst (λ (seen : History). CameTo setting base first.task (known_after (length first.knows.list) outcomes) (frames_left [] outcomes) seen step outcome.what) (sym whole)
    (subst (λ (fs : List Version). CameTo setting base first.task (known_after (length first.knows.list) outcomes) fs after.knows.list step outcome.what) inside
    (subst (λ (k : ℕ). CameTo setting base first.task k frames after.knows.list step outcome.what) (sym ran.known)
    (subst (λ (t : ℕ). CameTo setting base t (length before.knows.list) frames after.knows.list step outcome.what) ran.task new.came))) in
    record {
      task = new.learns.task ∙ ran.task;
      legal = new.legal;
      knew = begins_on first.knows.list before.knows.list after.knows.list ran.knew new.learns.knew;
      counts = let r = ran.counts in let n = new.learns.counts in omega (arith, sum_by-append (λ (o : Outcome). taken_by o.what) outcomes (outcome ∷ []));
      known = known_after-more (length first.knows.list) outcomes outcome ∙ new.known;
      done = more_done setting base first.task after.knows.list (length first.knows.list) [] steps outcomes step outcome
          (stay_done setting base first.task before.knows.list after.knows.list (length first.knows.list) [] steps outcomes new.learns.knew ran.done) at
          (record { grows = omega arith; within = omega arith; came = came });
    }

-- what is known before each step of a body
pub record SoFar (setting : Setting) (base : State) (answers : ℕ → ℕ → Bool → Type 0) (first now : Passing) (frames : List Version) (steps : List Step) (old out outcomes : List Outcome) : Type 0 where
  pub put : out ≡ old ++ outcomes
  pub ran : HasRun setting base first now steps outcomes
  pub inside : frames ≡ frames_left [] outcomes
  pub let_in : LetsIn answers first.task (length outcomes)

let_in_more : (answers : ℕ → ℕ → Bool → Type 0) (task count : ℕ) → LetsIn answers task count → answers task count true → (n : ℕ) → n < count + 1 → answers task n true
let_in_more answers task count before here = below_more (λ n. answers task n true) count before here

-- a body has done nothing
pub starts_so_far : (setting : Setting) (base : State) (answers : ℕ → ℕ → Bool → Type 0) (first now : Passing) (frames : List Version) (steps : List Step) (old out : List Outcome)
    → now ≡ first → frames ≡ [] → out ≡ old → IsLegal setting base first.knows.list → SoFar setting base answers first now frames steps old out []
starts_so_far setting base answers first now frames steps old out same none empty legal = record {
  put = empty ∙ sym (append-nil old);
  ran = subst (λ (p : Passing). HasRun setting base first p steps []) (sym same) (none_run setting base first steps legal);
  inside = none;
  let_in = λ step less. absurd (omega arith);
}

pub more_so_far : (setting : Setting) (base : State) (answers : ℕ → ℕ → Bool → Type 0) (first before after : Passing) (frames left : List Version) (steps : List Step) (old out outcomes : List Outcome) (step : Step) (outcome : Outcome)
    → SoFar setting base answers first before frames steps old out outcomes → slice_get steps (length outcomes) ≡ Some step
    → answers first.task (length outcomes) true → IsStepped setting base before after frames left step outcome
    → SoFar setting base answers first after left steps old (out ++ outcome ∷ []) (outcomes ++ outcome ∷ [])
more_so_far setting base answers first before after frames left steps old out outcomes step outcome far at lets new = record {
  put = ap (λ xs. xs ++ outcome ∷ []) far.put ∙ append_assoc old outcomes (outcome ∷ []);
  ran = more_run setting base first before after frames left steps outcomes step outcome far.ran at far.inside new;
  inside = new.left_is ∙ ap (λ fs. frames_after fs outcome.what) far.inside ∙ sym (frames_left-more [] outcomes outcome);
  let_in = λ n less. let longer = length-append outcomes (outcome ∷ []) in let_in_more answers first.task (length outcomes) far.let_in lets n (omega arith);
}

-- a body stops before its next step, with all that was known before it
pub stops_so_far : (setting : Setting) (base : State) (answers : ℕ → ℕ → Bool → Type 0) (first before now : Passing) (frames : List Version) (steps : List Step) (old out outcomes : List Outcome) (cause : BodyCause)
    → SoFar setting base answers first before frames steps old out outcomes → now ≡ before → length outcomes < length steps
    → Stops answers first.task steps outcomes cause
    → (xs : List Outcome) × (out ≡ old ++ xs) × IsCutShort setting base answers first now cause steps xs
stops_so_far setting base answers first before now frames steps old out outcomes cause far same some why = (
  outcomes,
  far.put,
  record { some = some; ran = subst (λ (p : Passing). HasRun setting base first p steps outcomes) (sym same) far.ran; let_in = far.let_in; why = why },
)
