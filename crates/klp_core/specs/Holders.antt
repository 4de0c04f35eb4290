-- The tasks that aren't at the target of the current transition, and what keeps each of them.
use Rattle.std.specs.Prelude.{Bool, true, false, List, [], map, reverse, find, Option, Some, None, if◌then◌else◌}
use Rattle.std.specs.List.{list_any}
use Rattle.klp_types.specs.declared.task.Mode.{Mode}
use Rattle.klp_types.specs.declared.task.Mode.TheVariants.{Asleep}
use Rattle.klp_types.specs.declared.task.Task.{Task}
use Rattle.klp_types.specs.declared.version.Transition.{Transition}
use Rattle.klp_types.specs.declared.version.Version.{Version}
use Rattle.klp_types.specs.Setting.{Setting}
use Rattle.klp_model.specs.Blocked.{is_version, blocked}
use Rattle.klp_model.specs.State.{State}
use Rattle.klp_model.specs.Task.{is_at}
use Rattle.klp_core.specs.declared.holders.Lag.{Lag}
use Rattle.klp_core.specs.declared.holders.Lag.TheVariants.{Holds, Waits}

-- the versions that a transition blocks; none without a transition
abbrev pub blocked_by : Setting → State → Option Transition → List Version
blocked_by setting state None = []
blocked_by setting state (Some move) = blocked setting state move

-- the versions that are blocked now, as a poll finds them
abbrev pub blocked_now : Setting → State → List Version
blocked_now setting state = blocked_by setting state state.moving

-- whether this version is blocked now
abbrev pub is_blocked : Setting → State → Version → Bool
is_blocked setting state version = list_any (is_version version) (blocked_now setting state)

-- the innermost of these frames that is blocked; frames are outermost first, and a walk over a stack begins at the
-- innermost
abbrev pub innermost_blocked_in : (Version → Bool) → List Version → Option Version
innermost_blocked_in blocks frames = find blocks (reverse frames)

-- a sleeper inside of a blocked version blocks the transition, and any other task waits
abbrev pub lag_by : Mode → Option Version → Lag
lag_by Asleep (Some version) = Holds version
lag_by mode held = Waits mode

-- the lag of a task that isn't at the target
abbrev pub lag_of : (Version → Bool) → Task → Lag
lag_of blocks task = lag_by task.mode (innermost_blocked_in blocks task.frames)

-- no lag without a transition, for a task that doesn't exist, and for a task at the target
abbrev pub lag_at : (Version → Bool) → Option Transition → Option Task → Option Lag
lag_at blocks None row = None
lag_at blocks (Some move) None = None
lag_at blocks (Some move) (Some task) = if is_at move.target task.state then None else Some (lag_of blocks task)

-- for each task number the lag of its task
abbrev pub holders : Setting → State → List (Option Lag)
holders setting state = map (lag_at (is_blocked setting state) state.moving) state.tasks

-- whether a poll leaves the task behind; a poll switches a sleeper that waits
abbrev pub is_left : Option Lag → Bool
is_left None = false
is_left (Some (Waits Asleep)) = false
is_left (Some lag) = true
