-- Observed runs: events, and the calls and returns of tasks between them.
use Rattle.std.specs.Prelude.{◌≡◌, ℕ, Bool, true, false, ◌==◌, List, [], ◌∷◌, ◌++◌, map, Option, Some, None, is_some, if◌then◌else◌}
use Rattle.std.specs.List.{list_any}
use Rattle.klp_types.specs.declared.version.Version.{Version}
use Rattle.klp_types.specs.declared.version.Target.{Target}
use Rattle.klp_types.specs.declared.task.Mode.TheVariants.{Kernel}
use Rattle.klp_model.specs.declared.event.Event.{Event}
use Rattle.klp_model.specs.declared.seen.Seen.{Seen}
use Rattle.klp_model.specs.declared.seen.Seen.TheVariants.{Event as Happens, Call as Calls, Return as Returns}
use Rattle.klp_model.specs.declared.event.Event.TheVariants.{Force, Going, NewTask, Fork, EndTask, ExitToUser, Sleep}
use Rattle.klp_types.specs.Setting.{Setting}
use Rattle.klp_model.specs.Task.{task_at, is_in}
use Rattle.klp_model.specs.State.{State}
use Rattle.klp_types.specs.Entries.{is_empty}
use Rattle.klp_model.specs.Pick.{pick}
use Rattle.klp_model.specs.Frames.{is_object, object_of_version}
use Rattle.klp_model.specs.Refusals.{accepts, is_there}
use Rattle.klp_model.specs.Run.{next}
use Rattle.klp_model.specs.Allowed.{Allowed}

-- one frame of a task: the site that it called, and the version that it got
pub record Frame : Type 0 where
  pub site : ℕ
  pub version : Version

-- for each task number its frames, innermost last
abbrev pub Stacks : Type 0
Stacks = ℕ → List Frame

abbrev pub with_frames : Stacks → ℕ → List Frame → Stacks
with_frames stacks task frames other = if other == task then frames else stacks other

abbrev pub versions : List Frame → List Version
versions frames = map (λ (f : Frame). f.version) frames

-- a state, and the frames of all tasks
pub record Watched : Type 0 where
  pub state : State
  pub stacks : Stacks

-- the frames after a call, with the version that it got
abbrev pub called : ℕ → List Frame → Option Target → List Frame
called site frames None = frames
called site frames (Some target) = frames ++ record { site = site; version = target.version } ∷ []

abbrev pub drop_last : List Frame → List Frame
drop_last [] = []
drop_last (frame ∷ frames) = if is_empty frames then [] else frame ∷ drop_last frames

-- a new or forked task has no frames
abbrev pub begun : Event → Stacks → Stacks
begun (NewTask task) stacks = with_frames stacks task []
begun (Fork parent child) stacks = with_frames stacks child []
begun other stacks = stacks

abbrev pub seen_next : Setting → Watched → Seen → Watched
seen_next setting w (Happens event) =
    record { state = next setting w.state event; stacks = if accepts setting w.state event then begun event w.stacks else w.stacks }
seen_next setting w (Calls task site) =
    record w { stacks = with_frames w.stacks task (called site (w.stacks task) (pick setting w.state task site)) }
seen_next setting w (Returns task) = record w { stacks = with_frames w.stacks task (drop_last (w.stacks task)) }

abbrev pub seen_run : Setting → Watched → List Seen → Watched
seen_run setting w [] = w
seen_run setting w (item ∷ items) = seen_run setting (seen_next setting w item) items

-- the events of an observed run
abbrev pub events_of : List Seen → List Event
events_of [] = []
events_of (Happens event ∷ items) = event ∷ events_of items
events_of (Calls task site ∷ items) = events_of items
events_of (Returns task ∷ items) = events_of items

-- at the start no task is inside of anything
abbrev pub opening : State → Watched
opening state = record { state = state; stacks = λ n. [] }

abbrev pub seen_from : Setting → State → List Seen → Watched
seen_from setting start items = seen_run setting (opening start) items

-- whether a frame is in the object
abbrev pub is_frame_in : Setting → ℕ → Frame → Bool
is_frame_in setting object frame = is_object object (object_of_version setting frame.version)

-- what must hold of the frames for an accepted event to be honest: a sleeper names all of its frames, a task that
-- leaves the kernel or ends has none, and no task is inside of a module that is unloaded; a force is never honest
abbrev pub IsHonestEvent : Setting → Stacks → Event → Type 0
IsHonestEvent setting stacks (Sleep task frames) = frames ≡ versions (stacks task)
IsHonestEvent setting stacks (ExitToUser task) = stacks task ≡ []
IsHonestEvent setting stacks (EndTask task) = stacks task ≡ []
IsHonestEvent setting stacks (Going object) = (task : ℕ) → list_any (is_frame_in setting object) (stacks task) ≡ false
IsHonestEvent setting stacks (Force patch) = ⊥
IsHonestEvent setting stacks other = Unit {0}

-- a task calls or returns only in the kernel; it calls only if it exists and the site's object is loaded, and
-- returns only if it has a frame
abbrev pub IsHonestItem : Setting → Watched → Seen → Type 0
IsHonestItem setting w (Happens event) = accepts setting w.state event ≡ true → IsHonestEvent setting w.stacks event
IsHonestItem setting w (Calls task site) =
    (is_in Kernel (task_at w.state.tasks task) ≡ true) × (is_some (pick setting w.state task site) ≡ true)
IsHonestItem setting w (Returns task) = (is_in Kernel (task_at w.state.tasks task) ≡ true) × (is_empty (w.stacks task) ≡ false)

abbrev pub AreHonest : Setting → Watched → List Seen → Type 0
AreHonest setting w [] = Unit {0}
AreHonest setting w (item ∷ items) = IsHonestItem setting w item × AreHonest setting (seen_next setting w item) items

abbrev pub HasNoTask : State → Type 0
HasNoTask state = (task : ℕ) → is_there state task ≡ false

-- an honest observed run from an allowed state without tasks
pub record IsHonestRun (setting : Setting) (start : State) (items : List Seen) : Type 0 where
  pub allowed : Allowed setting start
  pub no_task : HasNoTask start
  pub honest : AreHonest setting (opening start) items
