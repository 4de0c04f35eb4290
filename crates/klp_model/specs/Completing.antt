-- How a transition is tried, and how it completes.
use Rattle.std.specs.Prelude.{ℕ, zero, suc, ◌==◌, Bool, true, false, List, [], ◌∷◌, Option, Some, None, if◌then◌else◌}
use Rattle.klp_model.specs.declared.event.Reply.{Reply}
use Rattle.klp_model.specs.declared.event.Reply.TheVariants.{Pending, Completed}
use Rattle.klp_types.specs.declared.version.Transition.{Transition}
use Rattle.klp_types.specs.Setting.{Setting, replaces}
use Rattle.klp_types.specs.World.{Installed, World, without_patch}
use Rattle.klp_model.specs.Task.{Tasks, at_rest, all_in}
use Rattle.klp_model.specs.State.{State, with_tasks}
use Rattle.klp_model.specs.Blocked.{tried, pending}
use Rattle.klp_model.specs.Callbacks.{end_calls}
use Rattle.klp_types.specs.Callbacks.{after_calls}

-- the patch and the newer ones
abbrev pub from_patch : ℕ → List Installed → List Installed
from_patch patch [] = []
from_patch patch (first ∷ newer) = if first.patch == patch then first ∷ newer else from_patch patch newer

-- the world without the patches older than this one, if it replaces them
abbrev pub without_older : Bool → World → ℕ → World
without_older true world patch = record world { installed = from_patch patch world.installed }
without_older false world patch = world

-- the world with the patches that are left when a transition completes
abbrev pub settled : Setting → World → Transition → World
settled setting world move =
    if move.target then without_older (replaces setting move.patch) world move.patch else without_patch world move.patch

-- the callbacks of the end of a transition run, and then there is no transition any more
abbrev pub completed : Setting → State → Transition → Reply × State
completed setting state move = (
  Completed move.target,
  record state {
    world = settled setting (after_calls state.world (end_calls setting state (Some move))) move;
    moving = None;
    tasks = all_in at_rest state.tasks;
  },
)

abbrev pub completed_or_pending : Setting → State → Transition → Tasks → ℕ → Reply × State
completed_or_pending setting state move tasks zero = completed setting state move
completed_or_pending setting state move tasks (suc left) = (Pending (suc left), with_tasks state tasks)

-- what a poll replies and leaves: nothing to do without a transition, else sleepers are tried, and it completes once none lags
abbrev pub polled : Setting → State → Option Transition → Reply × State
polled setting state None = (Completed false, state)
polled setting state (Some move) = completed_or_pending setting state move (tried setting state move) (pending setting state move)
