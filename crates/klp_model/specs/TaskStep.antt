-- What task events do to a task.
use Rattle.std.specs.Prelude.{ℕ, ℤ, [], Option, Some, None}
use Rattle.klp_types.specs.declared.task.Mode.TheVariants.{User}
use Rattle.klp_types.specs.declared.version.Transition.{Transition}
use Rattle.klp_types.specs.declared.task.Task.{Task}
use Rattle.klp_model.specs.Task.{task_at, with_task, at_rest, at_target}
use Rattle.klp_model.specs.State.{State, with_tasks}

-- the patch state of a task that is at the target of the transition, if there is one
abbrev pub state_wanted : Option Transition → ℤ
state_wanted None = at_rest
state_wanted (Some move) = at_target move.target

-- the state after a change of the row of one task, if it exists
abbrev pub change_task : State → ℕ → (Task → Task) → Option Task → State
change_task state number f None = state
change_task state number f (Some task) = with_tasks state (with_task state.tasks number (Some (f task)))

abbrev pub change : State → ℕ → (Task → Task) → State
change state number f = change_task state number f (task_at state.tasks number)

abbrev pub put_task : State → ℕ → Option Task → State
put_task state number task = with_tasks state (with_task state.tasks number task)

abbrev pub new_task : ℤ → Task
new_task state = record { state = state; mode = User; frames = [] }

abbrev pub state_of_task : Option Task → ℤ
state_of_task None = at_rest
state_of_task (Some task) = task.state

abbrev pub exited : Option Transition → Task → Task
exited None task = record task { mode = User }
exited (Some move) task = record task { mode = User; state = at_target move.target }
