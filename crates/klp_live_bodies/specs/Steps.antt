-- What one step of a body comes to.
use Rattle.std.specs.Prelude.{◌≡◌, ◌≢◌, ℕ, ◌-◌, ◌<◌, Bool, true, false, List, [], ◌∷◌, ◌++◌, length, take, Ok, Err}
use Rattle.klp_types.specs.declared.version.Version.{Version}
use Rattle.klp_types.specs.declared.version.Target.{Target}
use Rattle.klp_types.specs.declared.limits.TheConstants.{MAX_FRAMES}
use Rattle.klp_types.specs.Setting.{Setting}
use Rattle.klp_model.specs.State.{State}
use Rattle.klp_model.specs.declared.event.Event.{Event}
use Rattle.klp_model.specs.declared.event.Event.TheVariants.{Sleep}
use Rattle.klp_model.specs.declared.event.Refusal.{Refusal}
use Rattle.klp_model.specs.declared.event.Refusal.TheVariants.{JournalFull}
use Rattle.klp_model.specs.Legal.{History, state_after_history}
use Rattle.klp_model.specs.Run.{answer}
use Rattle.klp_live.specs.declared.target.EnterFault.{EnterFault}
use Rattle.klp_live.specs.declared.target.EnterFault.TheVariants.{NoTable}
use Rattle.klp_live.specs.Found.{entered}
use Rattle.klp_live.specs.Admitting.{FindsNoRoom}
use Rattle.klp_live.specs.Seats.{IsLast}
use Rattle.klp_live_bodies.specs.Receipts.{AcceptedValue}
use Rattle.klp_live_bodies.specs.declared.step.Step.{Step}
use Rattle.klp_live_bodies.specs.declared.step.Step.TheVariants.{Submit, Call, Return, Nap}
use Rattle.klp_live_bodies.specs.declared.step.What.{What}
use Rattle.klp_live_bodies.specs.declared.step.What.TheVariants.{Receipt, Refused, Entered, NoEntry, Returned, Deep}

-- the versions that a task is inside of after a step, innermost last: those that it entered and hasn't returned from
abbrev pub frames_after : List Version → What → List Version
frames_after frames (Entered target) = frames ++ target.version ∷ []
frames_after frames Returned = take (length frames - 1) frames
frames_after frames other = frames

-- 1 if the step was an accepted event, else 0
abbrev pub taken_by : What → ℕ
taken_by (Receipt accepted) = 1
taken_by other = 0

-- whether the step submits an event
abbrev pub submits : Step → Bool
submits (Submit event) = true
submits Nap = true
submits other = false

-- The event was accepted: its row is the last of the known history, with its reply and number, behind all known before.
pub record IsReceipt (before : ℕ) (seen : History) (event : Event) (accepted : AcceptedValue) : Type 0 where
  pub event_is : accepted.event ≡ event
  pub number : accepted.number ≡ length seen
  pub later : before < accepted.number
  pub well_formed : IsLast seen event accepted.reply

-- The refusal is the model's in the state of this history; or the model would accept the event, but a journal of this
-- history may have no room.
pub record IsRefusal (setting : Setting) (base : State) (seen : History) (event : Event) (refusal : Refusal) : Type 0 where
  pub answers : refusal ≢ JournalFull → answer setting (state_after_history setting base seen) event ≡ Err refusal
  pub full : refusal ≡ JournalFull → FindsNoRoom setting base seen event

-- what submitting an event comes to: a receipt or a refusal
abbrev pub IsSubmission : Setting → State → ℕ → History → Event → What → Type 0
IsSubmission setting base before seen event (Receipt accepted) = IsReceipt before seen event accepted
IsSubmission setting base before seen event (Refused refusal) = IsRefusal setting base seen event refusal
IsSubmission setting base before seen event other = ⊥

-- a version was entered: there was a free frame, and the version is the model's pick in the state of this history
pub record IsEntry (setting : Setting) (base : State) (task : ℕ) (frames : List Version) (seen : History) (site : ℕ) (target : Target) : Type 0 where
  pub room : length frames < MAX_FRAMES
  pub answers : entered setting (state_after_history setting base seen) task site ≡ Ok target

-- nothing was entered, as the model says too; or there was no table, and nothing new is known
pub record IsNoEntry (setting : Setting) (base : State) (task : ℕ) (before : ℕ) (frames : List Version) (seen : History) (site : ℕ) (fault : EnterFault) : Type 0 where
  pub room : length frames < MAX_FRAMES
  pub answers : fault ≢ NoTable → entered setting (state_after_history setting base seen) task site ≡ Err fault
  pub unread : fault ≡ NoTable → length seen ≡ before

-- the task is inside of as many versions as can be kept, so nothing was entered
pub record IsDeep (before : ℕ) (frames : List Version) (seen : History) : Type 0 where
  pub full : length frames ≡ MAX_FRAMES
  pub same : length seen ≡ before

-- what a call comes to: a version is entered, or none is
abbrev pub IsCall : Setting → State → ℕ → ℕ → List Version → History → ℕ → What → Type 0
IsCall setting base task before frames seen site (Entered target) = IsEntry setting base task frames seen site target
IsCall setting base task before frames seen site (NoEntry fault) = IsNoEntry setting base task before frames seen site fault
IsCall setting base task before frames seen site Deep = IsDeep before frames seen
IsCall setting base task before frames seen site other = ⊥

-- a return, which makes no event known
abbrev pub IsReturn : ℕ → History → What → Type 0
IsReturn before seen Returned = length seen ≡ before
IsReturn before seen other = ⊥

-- what a step came to; `before` events were known before it, and `seen` is the history known after it
abbrev pub CameTo : Setting → State → ℕ → ℕ → List Version → History → Step → What → Type 0
CameTo setting base task before frames seen (Submit event) what = IsSubmission setting base before seen event what
CameTo setting base task before frames seen Nap what = IsSubmission setting base before seen (Sleep task frames) what
CameTo setting base task before frames seen (Call site) what = IsCall setting base task before frames seen site what
CameTo setting base task before frames seen Return what = IsReturn before seen what
