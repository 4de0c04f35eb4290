-- What a page reads from a manager after a line.
use Rattle.std.specs.Prelude.{◌≡◌, ℕ, ◌==◌, Bool, false, if◌then◌else◌, List, [], ◌∷◌, map, slice_get, Option, Some, None, option_map, option_and_then, Ok}
use Rattle.klp_types.specs.declared.task.Mode.{Mode}
use Rattle.klp_types.specs.declared.task.Task.{Task}
use Rattle.klp_types.specs.declared.version.Target.{Target}
use Rattle.klp_types.specs.declared.version.Transition.{Transition}
use Rattle.klp_types.specs.declared.version.Version.{Version}
use Rattle.klp_types.specs.declared.version.Version.TheVariants.{Original, New}
use Rattle.klp_types.specs.Frames.{frames_of}
use Rattle.klp_types.specs.Setting.{Setting, Function, functions_of}
use Rattle.klp_model.specs.declared.event.Event.{Event}
use Rattle.klp_model.specs.declared.event.Event.TheVariants.{Force, Coming, Going}
use Rattle.klp_model.specs.declared.event.Reply.{Reply}
use Rattle.klp_model.specs.declared.event.Reply.TheVariants as reply
use Rattle.klp_model.specs.Blocked.{is_version}
use Rattle.klp_model.specs.Pick.{pick_by}
use Rattle.klp_model.specs.State.{State, installed_patches}
use Rattle.klp_model.specs.Task.{task_at}
use Rattle.klp_core.specs.declared.holders.Lag.{Lag}
use Rattle.klp_core.specs.declared.holders.Lag.TheVariants as lag
use Rattle.klp_core.specs.Holders.{is_blocked, lag_at, holders}
use Rattle.klp_console.specs.declared.outcome.LineOutcome.{LineOutcome}
use Rattle.klp_console.specs.declared.outcome.LineOutcome.TheVariants.{Answered, Rewound}
use Rattle.klp_timeline.specs.declared.moment.Fact.{Fact}
use Rattle.klp_timeline.specs.declared.moment.Fact.TheVariants.{Forces, PreFailed, Comes, Goes, Undoes}
use Rattle.klp_timeline.specs.declared.moment.Stay.{Stay}
use Rattle.klp_timeline.specs.declared.moment.Stay.TheVariants.{Holds, Outdated}
use Rattle.klp_timeline.specs.declared.moment.View.{View}
use Rattle.klp_timeline.specs.Stays.{stay_at}

-- the site at which a version is called
abbrev pub site_of : Setting → Version → Option ℕ
site_of setting (Original site) = Some site
site_of setting (New patch function) = option_and_then (λ (f : Function). f.site) (slice_get (functions_of setting patch) function)

-- whether the version is the one that was picked
abbrev pub is_picked : Version → Option Target → Bool
is_picked version None = false
is_picked version (Some target) = is_version target.version version

-- whether the task of this row would run the version if it called the version's site now
abbrev pub is_current : Setting → State → Option Task → Version → Bool
is_current setting state row version = is_picked version (option_and_then (λ site. pick_by setting state site row) (site_of setting version))

-- the first version, or if there is none the other
abbrev pub else_of : Option Version → Option Version → Option Version
else_of None other = other
else_of (Some version) other = Some version

-- of these versions, outermost first, the innermost for which `runs` is false
abbrev pub innermost_outside : (Version → Bool) → List Version → Option Version
innermost_outside runs [] = None
innermost_outside runs (version ∷ inner) = else_of (innermost_outside runs inner) (if runs version then None else Some version)

-- the innermost version that the task is inside of and wouldn't run now
abbrev pub outdated_in : Setting → State → Option Task → Option Version
outdated_in setting state row = innermost_outside (is_current setting state row) (frames_of row)

-- the stay of a task: it blocks the transition, or else it is inside of a version that it wouldn't run now
abbrev pub stay_by : Option Transition → Option Lag → Option Version → Option Stay
stay_by (Some move) (Some (lag.Holds version)) outdated = Some (Holds move version)
stay_by moving own outdated = option_map Outdated outdated

-- the lag of the task of this row
abbrev pub lag_in : Setting → State → Option Task → Option Lag
lag_in setting state row = lag_at (is_blocked setting state) state.moving row

-- the stay of the task of this row
abbrev pub stay_in : Setting → State → Option Task → Option Stay
stay_in setting state row = stay_by state.moving (lag_in setting state row) (outdated_in setting state row)

-- the mode of a task that lags without blocking the transition
abbrev pub wait_by : Option Lag → Option Mode
wait_by (Some (lag.Waits mode)) = Some mode
wait_by other = None

-- A view shows the transition, the installed patches, and for each task its stay, or its mode if it lags without
-- blocking the transition.
pub record IsView (setting : Setting) (state : State) (view : View) : Type 0 where
  pub moving : view.moving ≡ state.moving
  pub installed : view.installed.items ≡ installed_patches state
  pub stays : view.stays ≡ map (stay_in setting state) state.tasks
  pub waits : view.waits ≡ map wait_by (holders setting state)

-- a view has for each task number the stay of its task
abbrev pub IsStayAtEach : Type 0
IsStayAtEach = (setting : Setting) (state : State) (view : View) (task : ℕ) → IsView setting state view
    → stay_at view.stays task ≡ stay_in setting state (task_at state.tasks task)

-- the fact that this transition was forced
abbrev pub forces : Option Transition → Option Fact
forces moving = option_map Forces moving

-- what an accepted event did, if views don't show it
abbrev pub fact_of : Option Transition → Event → Reply → Option Fact
fact_of moving event (reply.PreFailed patch object status) = Some (PreFailed patch object status)
fact_of moving (Force patch) other = option_map Forces moving
fact_of moving (Coming object) other = Some (Comes object)
fact_of moving (Going object) other = Some (Goes object)
fact_of moving event other = None

-- what a line with this outcome did; `moving` is the transition before it, and the journal had `from` events and has
-- `to`
abbrev pub act_of : Option Transition → LineOutcome → ℕ → ℕ → Option Fact
act_of moving (Answered event (Ok reply)) from to = fact_of moving event reply
act_of moving (Rewound mark) from to = if from == to then None else Some (Undoes from to)
act_of moving other from to = None
