-- Tasks: the patch state of each, its mode, and the functions that it is inside of.
use Rattle.std.specs.Prelude.{ℕ, ℤ, pos, negsuc, Bool, true, false, ◌==◌, List, map, Option, Some, None, option_map, slice_index_or, slice_set}
use Rattle.klp_types.specs.declared.task.Task.{Task}
use Rattle.klp_types.specs.declared.task.Mode.{Mode}
use Rattle.klp_types.specs.declared.task.Mode.TheVariants.{User, Kernel, Asleep}

-- for each number the task, if there is one
abbrev pub Tasks : Type 0
Tasks = List (Option Task)

abbrev pub task_at : Tasks → ℕ → Option Task
task_at tasks number = slice_index_or tasks number None

abbrev pub with_task : Tasks → ℕ → Option Task → Tasks
with_task tasks number task = slice_set tasks number task

abbrev pub is_mode : Mode → Mode → Bool
is_mode User User = true
is_mode Kernel Kernel = true
is_mode Asleep Asleep = true
is_mode own other = false

-- whether the task exists and is in this mode
abbrev pub is_in : Mode → Option Task → Bool
is_in mode None = false
is_in mode (Some task) = is_mode task.mode mode

-- the patch state of a task if there is no transition
abbrev pub at_rest : ℤ
at_rest = negsuc 0

-- the patch state of a task that is at this target
abbrev pub at_target : Bool → ℤ
at_target true = pos 1
at_target false = pos 0

abbrev pub is_at_rest : ℤ → Bool
is_at_rest (pos n) = false
is_at_rest (negsuc n) = n == 0

abbrev pub is_at : Bool → ℤ → Bool
is_at true (pos n) = n == 1
is_at false (pos n) = n == 0
is_at target (negsuc n) = false

abbrev pub in_state : ℤ → Task → Task
in_state state task = record task { state = state }

-- the tasks, each with this patch state
abbrev pub all_in : ℤ → Tasks → Tasks
all_in state tasks = map (option_map (in_state state)) tasks
