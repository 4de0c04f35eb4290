-- What watching a list of items comes to: what became of each, and that what stood is an honest observed run.
use Rattle.std.specs.Prelude.{◌≡◌, ℕ, zero, suc, Bool, true, false, ◌&&◌, not, ◌≤◌, List, [], ◌∷◌, ◌++◌, length, map, Option, Some, None, is_ok, is_some, Ok, Err}
use Rattle.std.specs.List.{list_any}
use Rattle.klp_types.specs.declared.task.Mode.TheVariants.{Kernel}
use Rattle.klp_types.specs.declared.limits.TheConstants.{MAX_FRAMES}
use Rattle.klp_types.specs.declared.version.Version.{Version}
use Rattle.klp_types.specs.Setting.{Setting}
use Rattle.klp_types.specs.Entries.{is_empty}
use Rattle.klp_model.specs.declared.event.Event.{Event}
use Rattle.klp_model.specs.declared.event.Event.TheVariants.{Force, Going, EndTask, ExitToUser, Sleep}
use Rattle.klp_model.specs.declared.seen.Seen.{Seen}
use Rattle.klp_model.specs.declared.seen.Seen.TheVariants.{Event as Happens, Call as Calls, Return as Returns}
use Rattle.klp_model.specs.State.{State}
use Rattle.klp_model.specs.Task.{task_at, is_in}
use Rattle.klp_model.specs.Refusals.{is_there}
use Rattle.klp_model.specs.Run.{run}
use Rattle.klp_model.specs.Pick.{pick}
use Rattle.klp_model.specs.Consistent.{AllCurrent, NoneLeft, NoneMixed}
use Rattle.klp_model.specs.Observed.{Stacks, Watched, versions, is_frame_in, events_of, seen_from, seen_run, AreHonest, IsHonestRun}
use Rattle.klp_journal.specs.Journal.{Group}
use Rattle.klp_manager_state.specs.Managed.{setting_of}
use Rattle.klp_manager_state.specs.Events.{after_event}
use Rattle.klp_core.specs.Events.{after_events}
use Rattle.klp_core.specs.Journaled.{Journaled}
use Rattle.klp_core.specs.Taking.{Outcome, IsOutcome, answer_in}
use Rattle.klp_watch.specs.Inside.{AreInside}
use Rattle.klp_watch.specs.declared.cause.Cause.{Cause}
use Rattle.klp_watch.specs.declared.cause.Cause.TheVariants.{NotOpening, Frames, FramesLeft, ModuleInUse, Forced, NoCall, NoReturn, Deep}

-- what became of an item: an event has its group or its refusal, a call and a return have neither
abbrev pub Became : Type 0
Became = Option Outcome

-- the items without the events that were refused
abbrev pub accepted_in : List Seen → List Became → List Seen
accepted_in [] outcomes = []
accepted_in (item ∷ items) [] = []
accepted_in (item ∷ items) (None ∷ outcomes) = item ∷ accepted_in items outcomes
accepted_in (item ∷ items) (Some (Ok group) ∷ outcomes) = item ∷ accepted_in items outcomes
accepted_in (item ∷ items) (Some (Err refusal) ∷ outcomes) = accepted_in items outcomes

-- the groups of the events that were accepted
abbrev pub groups_in : List Became → List Group
groups_in [] = []
groups_in (None ∷ outcomes) = groups_in outcomes
groups_in (Some (Ok group) ∷ outcomes) = group ∷ groups_in outcomes
groups_in (Some (Err refusal) ∷ outcomes) = groups_in outcomes

-- this became of an item where the state is this and the journal has these groups
abbrev pub IsTakenAs : Setting → State → List Group → Seen → Became → Type 0
IsTakenAs setting state groups (Happens event) (Some outcome) = IsOutcome setting state groups event outcome
IsTakenAs setting state groups (Happens event) None = ⊥
IsTakenAs setting state groups (Calls task site) None = Unit {0}
IsTakenAs setting state groups (Calls task site) (Some outcome) = ⊥
IsTakenAs setting state groups (Returns task) None = Unit {0}
IsTakenAs setting state groups (Returns task) (Some outcome) = ⊥

-- the state once the event of this group, if there is one, has happened
abbrev pub state_by : Setting → State → Became → State
state_by setting state outcome = run setting state (map (λ (g : Group). g.event) (groups_in (outcome ∷ [])))

-- each item in its turn
abbrev pub AreTakenAs : Setting → State → List Group → List Seen → List Became → Type 0
AreTakenAs setting state groups [] [] = Unit {0}
AreTakenAs setting state groups [] (outcome ∷ outcomes) = ⊥
AreTakenAs setting state groups (item ∷ items) [] = ⊥
AreTakenAs setting state groups (item ∷ items) (outcome ∷ outcomes) =
    IsTakenAs setting state groups item outcome
    × AreTakenAs setting (state_by setting state outcome) (groups ++ groups_in (outcome ∷ [])) items outcomes

-- at every moment each task runs one version of each function, as the laws of observed runs have it
pub record IsConsistent (setting : Setting) (start : State) (items : List Seen) : Type 0 where
  pub current : (first second : List Seen) → items ≡ first ++ second → AllCurrent setting (seen_from setting start first)
  pub stay : (first second : List Seen) → items ≡ first ++ second → NoneLeft setting (seen_from setting start first)
  pub apart : (first second : List Seen) → items ≡ first ++ second → NoneMixed setting (seen_from setting start first)

-- the items were done in order. What stands of them is an honest observed run from the state before, and left this; each other event
-- was refused in its turn
pub record AreWatched (before after : Journaled) (items : List Seen) : Type 0 where
  pub outcomes : List Became
  pub each : AreTakenAs (setting_of before.managed) before.managed.state before.groups items outcomes
  pub honest : IsHonestRun (setting_of before.managed) before.managed.state (accepted_in items outcomes)
  pub groups : after.groups ≡ before.groups ++ groups_in outcomes
  pub left : after.managed ≡ after_events before.managed (events_of (accepted_in items outcomes))
  pub base : after.base ≡ before.base

-- what is against the premises in an event that is accepted where tasks are inside of this
abbrev pub IsAgainst : Setting → Stacks → Event → Cause → Type 0
IsAgainst setting stacks (Sleep task frames) Frames = frames ≡ versions (stacks task) → ⊥
IsAgainst setting stacks (ExitToUser task) FramesLeft = is_empty (stacks task) ≡ false
IsAgainst setting stacks (EndTask task) FramesLeft = is_empty (stacks task) ≡ false
IsAgainst setting stacks (Going object) ModuleInUse = (task : ℕ) × (list_any (is_frame_in setting object) (stacks task) ≡ true)
IsAgainst setting stacks (Force patch) Forced = Unit {0}
IsAgainst setting stacks event cause = ⊥

-- whether a call of the task at the site stands, and a return
abbrev pub may_call : Setting → Watched → ℕ → ℕ → Bool
may_call setting w task site = is_in Kernel (task_at w.state.tasks task) && is_some (pick setting w.state task site)

abbrev pub may_return : Watched → ℕ → Bool
may_return w task = is_in Kernel (task_at w.state.tasks task) && not (is_empty (w.stacks task))

-- an item can't be done for this cause, where the journal has these groups. How many frames are kept is the limit of whoever watches
abbrev pub IsCause : Setting → Watched → List Group → Seen → Cause → Type 0
IsCause setting w groups (Happens event) cause = (is_ok (answer_in setting w.state groups event) ≡ true) × IsAgainst setting w.stacks event cause
IsCause setting w groups (Calls task site) NoCall = may_call setting w task site ≡ false
IsCause setting w groups (Calls task site) Deep = (may_call setting w task site ≡ true) × (MAX_FRAMES ≤ length (w.stacks task))
IsCause setting w groups (Returns task) NoReturn = may_return w task ≡ false
IsCause setting w groups item cause = ⊥

-- state and journal as they were; the callbacks of an event that was taken back have run
abbrev pub once_taken_back : Journaled → Seen → Journaled
once_taken_back before (Happens event) = record before { managed = record before.managed { catalog = (after_event before.managed event).catalog } }
once_taken_back before item = before

-- the state of a manager, where tasks are inside of this
abbrev pub moment_of : Journaled → Stacks → Watched
moment_of manager stacks = record { state = manager.managed.state; stacks = stacks }

-- one item was done where tasks were inside of this, and now they are inside of what the table has
pub record IsDone (before after : Journaled) (stacks : Stacks) (item : Seen) (table : List (List Version)) : Type 0 where
  pub outcome : Became
  pub taken : IsTakenAs (setting_of before.managed) before.managed.state before.groups item outcome
  pub honest : AreHonest (setting_of before.managed) (moment_of before stacks) (accepted_in (item ∷ []) (outcome ∷ []))
  pub groups : after.groups ≡ before.groups ++ groups_in (outcome ∷ [])
  pub left : after.managed ≡ after_events before.managed (events_of (accepted_in (item ∷ []) (outcome ∷ [])))
  pub base : after.base ≡ before.base
  pub inside : AreInside table (seen_run (setting_of before.managed) (moment_of before stacks) (accepted_in (item ∷ []) (outcome ∷ []))).stacks

-- an item was told for this cause, where tasks are inside of this, and left nothing
pub record IsReported (before after : Journaled) (stacks : Stacks) (item : Seen) (cause : Cause) : Type 0 where
  pub why : IsCause (setting_of before.managed) (moment_of before stacks) before.groups item cause
  pub left : after ≡ once_taken_back before item

-- so many items were done, and the next one was told
pub record IsReportedBehind (before after : Journaled) (items : List Seen) (count : ℕ) (cause : Cause) : Type 0 where
  pub earlier : List Seen
  pub item : Seen
  pub later : List Seen
  pub parted : items ≡ earlier ++ item ∷ later
  pub count_is : length earlier ≡ count
  pub done : Journaled
  pub watched : AreWatched before done earlier
  pub reported : IsReported done after (seen_from (setting_of before.managed) before.managed.state (accepted_in earlier watched.outcomes)).stacks item cause

-- the item told, counted from 1; with 0 nothing was done, since a task was there at the start
abbrev pub IsFault : Journaled → Journaled → List Seen → ℕ → Cause → Type 0
IsFault before after items zero cause = (cause ≡ NotOpening) × (after ≡ before) × ((task : ℕ) × (is_there before.managed.state task ≡ true))
IsFault before after items (suc count) cause = IsReportedBehind before after items count cause
