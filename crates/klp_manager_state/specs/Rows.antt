-- The rows that events change, and how records put them back.
use Rattle.std.specs.Prelude.{◌≡◌, Bool, true, false, not, ◌&&◌, ◌||◌, List, [], ◌∷◌, Option, Some, None, is_some, slice_set, Result, IfOk, OnErr, if◌then◌else◌}
use Rattle.klp_types.specs.declared.record.Record.{Record}
use Rattle.klp_types.specs.declared.record.Record.TheVariants.{TaskRow, NoTaskRow, Moving, NothingMoving, PinnedFlag}
use Rattle.klp_types.specs.declared.version.Transition.{Transition}
use Rattle.klp_types.specs.Records.{RecordList}
use Rattle.klp_types.specs.World.{World}
use Rattle.klp_model.specs.Task.{Tasks}
use Rattle.klp_model.specs.declared.event.Reply.{Reply}
use Rattle.klp_model.specs.declared.event.Refusal.{Refusal}
use Rattle.klp_world.specs.Coded.{world_code}
use Rattle.klp_world.specs.Undo as of_world
use Rattle.klp_tasks.specs.Changes as of_tasks
use Rattle.klp_sites.specs.Table.{SiteTable}
use Rattle.klp_sites.specs.Undo as of_sites
use Rattle.klp_manager_state.specs.declared.state.ManagerState.{ManagerState}
use Rattle.klp_manager_state.specs.Codes.{is_same, flags_code, stacks_code, tasks_code, moving_code}

-- the rows that events change: the world, loaded flags with function stacks, tasks, the transition and pins
pub record Rows : Type 0 where
  pub world : World
  pub sites : SiteTable
  pub tasks : Tasks
  pub moving : Option Transition
  pub pinned : List Bool

abbrev pub rows_in : ManagerState → Rows
rows_in manager = record { world = manager.world; sites = manager.sites; tasks = manager.tasks; moving = manager.moving; pinned = manager.pinned }

-- whether the record is one of a task
abbrev pub is_of_tasks : Record → Bool
is_of_tasks (TaskRow task was) = true
is_of_tasks (NoTaskRow task) = true
is_of_tasks other = false

-- the record of a transition, or of none
abbrev pub row_of_moving : Option Transition → Record
row_of_moving None = NothingMoving
row_of_moving (Some was) = Moving was

-- the transition once this record is put back; a record of another kind leaves it
abbrev pub put_moving : Option Transition → Record → Option Transition
put_moving moving (Moving was) = Some was
put_moving moving NothingMoving = None
put_moving moving other = moving

-- the pins once this record is put back; a record of another kind leaves them
abbrev pub put_pinned : List Bool → Record → List Bool
put_pinned pinned (PinnedFlag patch was) = slice_set pinned patch was
put_pinned pinned other = pinned

-- the rows once this record is put back
abbrev pub put_back : Rows → Record → Rows
put_back rows row = record {
  world = of_world.put_back rows.world row;
  sites = of_sites.put_back rows.sites row;
  tasks = of_tasks.put_back rows.tasks row;
  moving = put_moving rows.moving row;
  pinned = put_pinned rows.pinned row;
}

-- the rows once all records are put back, newest first; the newest is the last of the list
abbrev pub undone : Rows → List Record → Rows
undone rows [] = rows
undone rows (row ∷ newer) = put_back (undone rows newer) row

-- whether a record can be put back: only a record of an entry needs anything, which is room for the entry
abbrev pub is_due : Rows → Record → Bool
is_due rows row = of_sites.is_due rows.sites row

-- whether all records can be put back, each at its turn, after the newer ones
abbrev pub are_due : Rows → List Record → Bool
are_due rows [] = true
are_due rows (row ∷ newer) = is_due (undone rows newer) row && are_due rows newer

-- whether these are the same rows, over one image
unfoldable pub are_same : Rows → Rows → Bool
are_same rows other =
    is_same world_code rows.world other.world
    && (is_same flags_code rows.sites.loaded other.sites.loaded && (is_same stacks_code rows.sites.stacks other.sites.stacks
    && (is_same tasks_code rows.tasks other.tasks && (is_same moving_code rows.moving other.moving && is_same flags_code rows.pinned other.pinned))))

-- Whether a record has an effect: putting it back changes the rows. So a record without a row or without room has none,
-- and no kind of record needs a rule of its own. A hook's record counts although it changes nothing itself.
abbrev pub has_effect : Rows → Record → Bool
has_effect rows row = is_some (of_sites.hook_of row) || not (are_same (put_back rows row) rows)

-- whether each of these records has an effect at its turn, after the newer ones are put back
abbrev pub each_has_effect : Rows → List Record → Bool
each_has_effect rows [] = true
each_has_effect rows (row ∷ newer) = has_effect (undone rows newer) row && each_has_effect rows newer

-- whether each of these records has an effect, and the records of hooks are at the places that the sites ask for
unfoldable pub rows_have_effects : Rows → Record → List Record → Bool
rows_have_effects rows oldest newer = of_sites.have_effects rows.sites (oldest ∷ newer) && each_has_effect rows (oldest ∷ newer)

-- the same for any list; the empty list has no record without an effect
abbrev pub have_effects : Rows → List Record → Bool
have_effects rows [] = true
have_effects rows (oldest ∷ newer) = rows_have_effects rows oldest newer

-- the rows once all records are put back, or none if one of the records has no effect
abbrev pub undone_if_effective : Rows → List Record → Option Rows
undone_if_effective rows records = if have_effects rows records then Some (undone rows records) else None

-- what there was before the current event's log: the rows, and the records of earlier events
pub record Before : Type 0 where
  pub rows : Option Rows
  pub older : List Record

-- putting back all that is logged gives it
abbrev pub before_logged : Rows → RecordList → Before
before_logged rows log = record { rows = undone_if_effective rows log.logged; older = log.older }

abbrev pub rows_before : ManagerState → Before
rows_before manager = before_logged (rows_in manager) manager.log

-- what there is when an event begins, with nothing logged yet
abbrev pub rows_now : ManagerState → Before
rows_now manager = record { rows = Some (rows_in manager); older = manager.log.older }

-- What there was before the log stays the same, whatever the other rows are, when the world changes (the sites, the
-- tasks, the transition, the pins) and the change is logged.

abbrev pub WorldGoesBack : World → World → RecordList → RecordList → Type 0
WorldGoesBack before after log_before log_after =
    (rows : Rows) → before_logged (record rows { world = after }) log_after ≡ before_logged (record rows { world = before }) log_before

abbrev pub SitesGoBack : SiteTable → SiteTable → RecordList → RecordList → Type 0
SitesGoBack before after log_before log_after =
    (rows : Rows) → before_logged (record rows { sites = after }) log_after ≡ before_logged (record rows { sites = before }) log_before

abbrev pub TasksGoBack : Tasks → Tasks → RecordList → RecordList → Type 0
TasksGoBack before after log_before log_after =
    (rows : Rows) → before_logged (record rows { tasks = after }) log_after ≡ before_logged (record rows { tasks = before }) log_before

abbrev pub MovingGoesBack : Option Transition → Option Transition → RecordList → RecordList → Type 0
MovingGoesBack before after log_before log_after =
    (rows : Rows) → before_logged (record rows { moving = after }) log_after ≡ before_logged (record rows { moving = before }) log_before

abbrev pub PinsGoBack : List Bool → List Bool → RecordList → RecordList → Type 0
PinsGoBack before after log_before log_after =
    (rows : Rows) → before_logged (record rows { pinned = after }) log_after ≡ before_logged (record rows { pinned = before }) log_before

-- An event was taken. If it was accepted, what it logged gives back the rows before it, and the records of earlier
-- events are untouched. If it was refused, nothing has changed.
pub record IsLogged (before after : ManagerState) (result : Result Reply Refusal) : Type 0 where
  pub accepted : IfOk result (λ reply. rows_before after ≡ rows_now before)
  pub refused : OnErr result (after ≡ before)
