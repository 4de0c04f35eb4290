-- The tasks that lag without blocking the transition.
use Rattle.std.specs.Prelude.{◌≡◌, ℕ, suc, Bool, false, List, [], ◌∷◌, ◌++◌, Option, Some, None, if◌then◌else◌, slice_index_or, Contains}
use Rattle.klp_types.specs.declared.task.Mode.{Mode}
use Rattle.klp_model.specs.Task.{is_mode}

-- whether a task lags in this mode
abbrev pub is_in : Mode → Option Mode → Bool
is_in mode None = false
is_in mode (Some own) = is_mode own mode

-- the tasks in this mode; the first of `waits` is that of the task with this number
abbrev pub lagging_from : Mode → ℕ → List (Option Mode) → List ℕ
lagging_from mode task [] = []
lagging_from mode task (wait ∷ waits) = (if is_in mode wait then task ∷ [] else []) ++ lagging_from mode (suc task) waits

-- the tasks that lag in this mode, in the order of their numbers
abbrev pub lagging : Mode → List (Option Mode) → List ℕ
lagging mode waits = lagging_from mode 0 waits

-- the mode of a task that lags without blocking the transition
abbrev pub wait_at : List (Option Mode) → ℕ → Option Mode
wait_at waits task = slice_index_or waits task None

-- each task that lags in a mode is in the list of that mode
abbrev pub IsEachLaggardThere : List (Option Mode) → Type 0
IsEachLaggardThere waits = (mode : Mode) (task : ℕ) → wait_at waits task ≡ Some mode → Contains (lagging mode waits) task

-- no other task is in it
abbrev pub IsNoLaggardMadeUp : List (Option Mode) → Type 0
IsNoLaggardMadeUp waits = (mode : Mode) (task : ℕ) → Contains (lagging mode waits) task → wait_at waits task ≡ Some mode
