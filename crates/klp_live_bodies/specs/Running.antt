-- The outcomes of a body, step by step, and how a body ends.
use Rattle.std.specs.Prelude.{◌≡◌, ℕ, ◌+◌, ◌<◌, ◌≤◌, ◌⊎◌, Bool, true, false, List, [], ◌∷◌, length, take, sum_by, Some, option_map, slice_get, Result, Ok, Err}
use mathlib.Core.List.{IsPrefix}
use Rattle.klp_types.specs.declared.version.Version.{Version}
use Rattle.klp_types.specs.Setting.{Setting}
use Rattle.klp_model.specs.State.{State}
use Rattle.klp_model.specs.Legal.{History, IsLegal}
use Rattle.klp_live.specs.Passing.{Passing}
use Rattle.klp_live_bodies.specs.declared.step.Step.{Step}
use Rattle.klp_live_bodies.specs.declared.step.Outcome.{Outcome}
use Rattle.klp_live_bodies.specs.declared.step.What.{What}
use Rattle.klp_live_bodies.specs.declared.fault.BodyCause.{BodyCause}
use Rattle.klp_live_bodies.specs.declared.fault.BodyFault.{BodyFault}
use Rattle.klp_live_bodies.specs.declared.fault.BodyCause.TheVariants.{Held, NoMemory}
use Rattle.klp_live_bodies.specs.Steps.{CameTo, frames_after, taken_by, submits}

-- An outcome of a step: the task knows at least the `before` events that it knew before the step, and the outcome is by
-- the first `outcome.known` events of the history.
pub record IsDone (setting : Setting) (base : State) (task : ℕ) (list : History) (before : ℕ) (frames : List Version) (step : Step) (outcome : Outcome) : Type 0 where
  pub grows : before ≤ outcome.known
  pub within : outcome.known ≤ length list
  pub came : CameTo setting base task before frames (take outcome.known list) step outcome.what

-- The first steps have these outcomes, in order. The task knew `before` events of the history at first, and was inside
-- of these versions.
abbrev pub AreDone : Setting → State → ℕ → History → ℕ → List Version → List Step → List Outcome → Type 0
AreDone setting base task list before frames steps [] = Unit {0}
AreDone setting base task list before frames [] (outcome ∷ outcomes) = ⊥
AreDone setting base task list before frames (step ∷ steps) (outcome ∷ outcomes) =
    IsDone setting base task list before frames step outcome
    × AreDone setting base task list outcome.known (frames_after frames outcome.what) steps outcomes

-- how many events are known after these outcomes
abbrev pub known_after : ℕ → List Outcome → ℕ
known_after before [] = before
known_after before (outcome ∷ outcomes) = known_after outcome.known outcomes

-- the versions that a task is inside of after these outcomes
abbrev pub frames_left : List Version → List Outcome → List Version
frames_left frames [] = frames
frames_left frames (outcome ∷ outcomes) = frames_left (frames_after frames outcome.what) outcomes

-- how many of the outcomes are accepted events
abbrev pub receipts : List Outcome → ℕ
receipts outcomes = sum_by (λ (o : Outcome). taken_by o.what) outcomes

-- what a pass knows after a step, and how many of its events are accepted then
pub record Learns (before after : Passing) (what : What) : Type 0 where
  pub task : after.task ≡ before.task
  pub knew : IsPrefix before.knows.list after.knows.list
  pub counts : after.knows.accepted ≡ before.knows.accepted + taken_by what

-- one step was done, and the task is inside of the versions `left` afterwards
pub record IsStepped (setting : Setting) (base : State) (before after : Passing) (frames left : List Version) (step : Step) (outcome : Outcome) : Type 0 where
  pub learns : Learns before after outcome.what
  pub legal : IsLegal setting base after.knows.list
  pub known : outcome.known ≡ length after.knows.list
  pub left_is : left ≡ frames_after frames outcome.what
  pub came : CameTo setting base before.task (length before.knows.list) frames after.knows.list step outcome.what

-- the first steps of a body were done: `before` is the pass that it began with, `after` the pass that it ended with
pub record HasRun (setting : Setting) (base : State) (before after : Passing) (steps : List Step) (outcomes : List Outcome) : Type 0 where
  pub task : after.task ≡ before.task
  pub legal : IsLegal setting base after.knows.list
  pub knew : IsPrefix before.knows.list after.knows.list
  pub counts : after.knows.accepted ≡ before.knows.accepted + receipts outcomes
  pub known : known_after (length before.knows.list) outcomes ≡ length after.knows.list
  pub done : AreDone setting base before.task after.knows.list (length before.knows.list) [] steps outcomes

-- the gate let the task in at each of the first `count` steps
abbrev pub LetsIn : (ℕ → ℕ → Bool → Type 0) → ℕ → ℕ → Type 0
LetsIn answers task count = (step : ℕ) → step < count → answers task step true

-- all steps are done
pub record IsFinished (setting : Setting) (base : State) (answers : ℕ → ℕ → Bool → Type 0) (before after : Passing) (steps : List Step) (outcomes : List Outcome) : Type 0 where
  pub all : length outcomes ≡ length steps
  pub ran : HasRun setting base before after steps outcomes
  pub let_in : LetsIn answers before.task (length outcomes)

-- Why the next step isn't done: the gate doesn't let the task in, or memory ran out, for the outcomes at the start or
-- for an event that the step submits.
abbrev pub Stops : (ℕ → ℕ → Bool → Type 0) → ℕ → List Step → List Outcome → BodyCause → Type 0
Stops answers task steps outcomes Held = answers task (length outcomes) false
Stops answers task steps outcomes NoMemory = (outcomes ≡ []) ⊎ (option_map submits (slice_get steps (length outcomes)) ≡ Some true)

-- some steps aren't done
pub record IsCutShort (setting : Setting) (base : State) (answers : ℕ → ℕ → Bool → Type 0) (before after : Passing) (cause : BodyCause) (steps : List Step) (outcomes : List Outcome) : Type 0 where
  pub some : length outcomes < length steps
  pub ran : HasRun setting base before after steps outcomes
  pub let_in : LetsIn answers before.task (length outcomes)
  pub why : Stops answers before.task steps outcomes cause

-- how a body ends that began with this pass
abbrev pub Ends : {S : Type 0} → Setting → State → (ℕ → ℕ → Bool → Type 0) → Passing → List Step → List Outcome → Result Passing (BodyFault S) → Type 0
Ends setting base answers before steps outcomes (Ok after) = IsFinished setting base answers before after steps outcomes
Ends setting base answers before steps outcomes (Err fault) = IsCutShort setting base answers before fault.pass fault.cause steps outcomes
