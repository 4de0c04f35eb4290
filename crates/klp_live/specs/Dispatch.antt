-- The dispatch table: what a call of a hooked function needs, for each site and for each task.
use Rattle.std.specs.Prelude.{◌≡◌, ℕ, ℤ, Bool, true, false, Option, Some, None, option_map, length, slice_index_or, slice_set}
use Rattle.klp_types.specs.declared.limits.TheConstants.{MAX_SITES}
use Rattle.klp_types.specs.declared.row.SiteRow.{SiteRow}
use Rattle.klp_types.specs.declared.task.Task.{Task}
use Rattle.klp_types.specs.Setting.{Setting}
use Rattle.klp_model.specs.State.{State}
use Rattle.klp_model.specs.Task.{task_at}
use Rattle.klp_model.specs.Rows.{row_of, moving_patch}
use Rattle.klp_model.specs.Run.{next}
use Rattle.klp_model.specs.declared.event.Event.{Event}
use Rattle.klp_model.specs.declared.event.Event.TheVariants.{NewTask, Fork, EndTask, EnterKernel, ExitToUser, Sleep, Wake, ShadowAlloc, ShadowGetOrAlloc, ShadowFree, ShadowFreeAll}
use Rattle.klp_live.specs.declared.table.Table.{Table}
use Rattle.klp_live.specs.declared.table.Change.{Change}
use Rattle.klp_live.specs.declared.table.Change.TheVariants.{Same, Task as OfTask, Moved, All}
use Rattle.klp_live.specs.Listed.{with_rows}

-- the row of a site in a table
abbrev pub row_at : Table → ℕ → Option SiteRow
row_at table site = slice_index_or table.rows site None

-- the patch state of a task in a table
abbrev pub state_at : Table → ℕ → Option ℤ
state_at table task = slice_index_or table.states task None

-- the patch state of a task, if it exists
abbrev pub own_state : State → ℕ → Option ℤ
own_state state task = option_map (λ (t : Task). t.state) (task_at state.tasks task)

-- the table has the row of each site of a loaded object, and the patch state of each task
pub record IsDispatch (setting : Setting) (state : State) (table : Table) : Type 0 where
  pub height : length table.rows ≡ 256
  pub width : length table.states ≡ 64
  pub sites : (site : ℕ) → row_at table site ≡ row_of setting state site
  pub tasks : (task : ℕ) → state_at table task ≡ own_state state task

-- the table after a change
abbrev pub changed : Table → Change → Table
changed table Same = table
changed table (OfTask task state) = record table { states = slice_set table.states task state }
changed table (Moved moved) = record { rows = with_rows table.rows moved.value.rows.items; states = moved.value.states }
changed table (All all) = all.value

-- how many rows of sites a change sets
abbrev pub rows_in : Change → ℕ
rows_in Same = 0
rows_in (OfTask task state) = 0
rows_in (Moved moved) = length moved.value.rows.items
rows_in (All all) = MAX_SITES

-- the task of an event that changes the state of one task and nothing else of a table
abbrev pub task_of : Event → Option ℕ
task_of (NewTask task) = Some task
task_of (Fork parent child) = Some child
task_of (EndTask task) = Some task
task_of (EnterKernel task) = Some task
task_of (ExitToUser task) = Some task
task_of (Sleep task frames) = Some task
task_of (Wake task) = Some task
task_of other = None

-- whether the event is about shadow variables; a table shows none of them
abbrev pub is_of_variables : Event → Bool
is_of_variables (ShadowAlloc key value) = true
is_of_variables (ShadowGetOrAlloc key value) = true
is_of_variables (ShadowFree key) = true
is_of_variables (ShadowFreeAll id) = true
is_of_variables other = false

-- the change makes the table of this state, whatever the table was before
abbrev pub Makes : Setting → State → Change → Type 0
Makes setting state change = (table : Table) → IsDispatch setting state (changed table change)

-- The change makes the table of this state out of that of any state before the event, if `moving` was in transition
-- then.
abbrev pub LeadsOn : Setting → State → Option ℕ → Event → Change → Type 0
LeadsOn setting state moving event change =
    (before : State) (table : Table) → moving_patch before.moving ≡ moving → state ≡ next setting before event → IsDispatch setting before table
    → IsDispatch setting state (changed table change)

-- the change makes the table of the state after the event out of that of this state
abbrev pub IsStep : Setting → State → Event → Change → Type 0
IsStep setting state event change = (table : Table) → IsDispatch setting state table → IsDispatch setting (next setting state event) (changed table change)
