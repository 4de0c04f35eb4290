-- A manager as contracts see it, with the accepted events since its base.
use Rattle.std.specs.Prelude.{◌≡◌, ℕ, suc, ◌≤◌, Bool, true, false, List, [], ◌∷◌, length, map, Ok, if◌then◌else◌}
use Rattle.std.specs.List.{All}
use Rattle.klp_types.specs.declared.limits.TheConstants.{MAX_RECORDS}
use Rattle.klp_types.specs.declared.version.Entry.{Entry}
use Rattle.klp_types.specs.Image.{Symbol, symbols_of}
use Rattle.klp_types.specs.Setting.{Setting}
use Rattle.klp_model.specs.declared.event.Event.{Event}
use Rattle.klp_model.specs.Allowed.{Allowed}
use Rattle.klp_model.specs.Entries.{entries_of}
use Rattle.klp_model.specs.declared.event.Event.TheVariants.{NewTask, Fork, EndTask, EnterKernel, ExitToUser, Sleep, Wake}
use Rattle.klp_model.specs.Legal.{History, IsLegal, state_after_history}
use Rattle.klp_model.specs.Run.{answer, next}
use Rattle.klp_model.specs.State.{State}
use Rattle.klp_model.specs.Stated.{IsStated}
use Rattle.klp_catalog.specs.Catalog.{Catalog}
use Rattle.klp_journal.specs.Journal.{Accepted, Group, groups_of, has_room, Keeps}
use Rattle.klp_stack.specs.Stack.{entries_at}
use Rattle.klp_manager_state.specs.declared.state.ManagerState.{ManagerState}
use Rattle.klp_manager_state.specs.Managed.{Managed, setting_of, managed_of, setting_in}
use Rattle.klp_manager_state.specs.Invariant.{Invariant}
use Rattle.klp_manager_state.specs.Rows.{Rows, rows_in, undone, have_effects}

-- a manager: image, catalog and state; the state when it was booted or sealed; the groups since, oldest first
pub record Journaled : Type 0 where
  pub managed : Managed
  pub base : State
  pub groups : List Group

-- the state that has these rows
abbrev pub state_in_rows : Rows → State
state_in_rows rows = record { loaded = rows.sites.loaded; world = rows.world; moving = rows.moving; pinned = rows.pinned; tasks = rows.tasks }

-- the entries of these symbols' sites, the first of which has the number `site`
abbrev pub stacks_from : Setting → State → ℕ → List Symbol → List (List Entry)
stacks_from setting state site [] = []
stacks_from setting state site (symbol ∷ symbols) = entries_of setting state site ∷ stacks_from setting state (suc site) symbols

-- the rows of a manager with this state
unfoldable pub rows_of : Setting → State → Rows
rows_of setting state = record {
  world = state.world;
  sites = record { image = setting.image; loaded = state.loaded; stacks = stacks_from setting state 0 (symbols_of setting.image.objects) };
  tasks = state.tasks;
  moving = state.moving;
  pinned = state.pinned;
}

-- the rows before all these groups: the records of the newest group, the last one, are put back first
abbrev pub rows_before_all : Rows → List Group → Rows
rows_before_all rows [] = rows
rows_before_all rows (group ∷ newer) = undone (rows_before_all rows newer) group.rows

-- a manager's state, catalog and journal, as contracts see them
abbrev pub journaled_of : ManagerState → Catalog → List Group → Journaled
journaled_of state catalog groups = record { managed = managed_of state catalog; base = state_in_rows (rows_before_all (rows_in state) groups); groups = groups }

-- rows that a manager may have: events can lead to their state, and each site has the stack that this state says
pub record AreKept (setting : Setting) (rows : Rows) : Type 0 where
  pub image : rows.sites.image ≡ setting.image
  pub allowed : Allowed setting (state_in_rows rows)
  pub stated : IsStated setting (state_in_rows rows)
  pub entries : (site : ℕ) → entries_at rows.sites.stacks site ≡ entries_of setting (state_in_rows rows) site

-- whether the event is one of a task
abbrev pub is_of_a_task : Event → Bool
is_of_a_task (NewTask task) = true
is_of_a_task (Fork parent child) = true
is_of_a_task (EndTask task) = true
is_of_a_task (EnterKernel task) = true
is_of_a_task (ExitToUser task) = true
is_of_a_task (Sleep task frames) = true
is_of_a_task (Wake task) = true
is_of_a_task other = false

-- a group has few records, and the group of a task event has one
pub record IsSmall (group : Group) : Type 0 where
  pub few : length group.rows ≤ MAX_RECORDS
  pub one : is_of_a_task group.event ≡ true → length group.rows ≡ 1

-- a group is a step: its event got its reply and led from `before` to `after`; each of its records has an effect
pub record IsStepOf (setting : Setting) (before after : Rows) (group : Group) : Type 0 where
  pub kept : AreKept setting before
  pub answered : answer setting (state_in_rows before) group.event ≡ Ok group.reply
  pub left : next setting (state_in_rows before) group.event ≡ state_in_rows after
  pub effective : have_effects after group.rows ≡ true
  pub small : IsSmall group

-- Each group is a step. It begins at the rows that putting back the group and all newer ones gives.
abbrev pub AreSteps : Setting → Rows → List Group → Type 0
AreSteps setting rows [] = AreKept setting rows
AreSteps setting rows (group ∷ newer) =
    IsStepOf setting (rows_before_all rows (group ∷ newer)) (rows_before_all rows newer) group × AreSteps setting rows newer

-- the groups lead to the state
pub record IsSound (state : ManagerState) (catalog : Catalog) (groups : List Group) : Type 0 where
  pub holds : Invariant state catalog
  pub steps : AreSteps (setting_in state catalog) (rows_in state) groups

-- the accepted events with their records, which stay in the log where they were logged
abbrev pub groups_in : ManagerState → List Accepted → List Group
groups_in state events = groups_of events state.log.older

-- what a manager keeps: the accepted events lead to the state, and the log has their records and no others
pub record AreInStep (state : ManagerState) (catalog : Catalog) (events : List Accepted) : Type 0 where
  pub holds : Invariant state catalog
  pub steps : AreSteps (setting_in state catalog) (rows_in state) (groups_in state events)
  pub kept : Keeps state.log events

-- the events with their replies
abbrev pub history_in : List Group → History
history_in groups = map (λ (g : Group). (g.event, g.reply)) groups

-- The groups are what happened since the base: each event was accepted at its turn with its reply, and all of them led
-- to the state. Each group is small.
pub record IsWellFormed (manager : Journaled) : Type 0 where
  pub allowed : Allowed (setting_of manager.managed) manager.base
  pub legal : IsLegal (setting_of manager.managed) manager.base (history_in manager.groups)
  pub state : manager.managed.state ≡ state_after_history (setting_of manager.managed) manager.base (history_in manager.groups)
  pub small : All IsSmall manager.groups

-- the manager with room for one more event: if its journal has none, what happened can't be taken back any more
abbrev pub with_room : Journaled → Journaled
with_room manager = if has_room manager.groups then manager else record manager { base = manager.managed.state; groups = [] }
