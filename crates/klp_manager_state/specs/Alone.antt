-- Events that change one kind of rows alone.
use Rattle.std.specs.Prelude.{◌≡◌, [], map, None, Ok}
use Rattle.klp_types.specs.declared.limits.TheConstants.{MAX_RECORDS}
use Rattle.klp_types.specs.Records.{RecordList}
use Rattle.klp_types.specs.World.{Installed, World}
use Rattle.klp_model.specs.declared.event.Event.{Event}
use Rattle.klp_model.specs.declared.event.Reply.{Reply}
use Rattle.klp_model.specs.EventCalls.{calls}
use Rattle.klp_model.specs.State.{with_tasks, with_world}
use Rattle.klp_model.specs.Step.{accepted}
use Rattle.klp_model.specs.Task.{Tasks}
use Rattle.klp_catalog.specs.Catalog.{Catalog}
use Rattle.klp_manager_state.specs.declared.state.ManagerState.{ManagerState}
use Rattle.klp_manager_state.specs.Events.{TakesEvent}
use Rattle.klp_manager_state.specs.Invariant.{Invariant}
use Rattle.klp_manager_state.specs.Managed.{setting_in, state_in, refused_in}
use Rattle.klp_manager_state.specs.StepLaws.{StepLaws}

-- An event that nothing refuses, that runs no callback and changes the tasks alone, is taken by changing the tasks in
-- that way.
abbrev pub AreTasksTaken : Type 0
AreTasksTaken = StepLaws → (before : ManagerState) (catalog : Catalog) (tasks : Tasks) (log : RecordList) (event : Event) (reply : Reply) → Invariant before catalog
    → refused_in before catalog event ≡ None
    → calls (setting_in before catalog) (state_in before catalog) event ≡ []
    → accepted (setting_in before catalog) (state_in before catalog) event ≡ (reply, with_tasks (state_in before catalog) tasks)
    → log.room ≡ MAX_RECORDS → TakesEvent before (record before { tasks = tasks; log = log }) catalog catalog event (Ok reply)

-- an event that does so with the world, and leaves the list of installed patches, is taken by changing the world
abbrev pub IsWorldTaken : Type 0
IsWorldTaken = StepLaws → (before : ManagerState) (catalog : Catalog) (world : World) (log : RecordList) (event : Event) (reply : Reply) → Invariant before catalog
    → refused_in before catalog event ≡ None
    → calls (setting_in before catalog) (state_in before catalog) event ≡ []
    → accepted (setting_in before catalog) (state_in before catalog) event ≡ (reply, with_world (state_in before catalog) world)
    → map (λ (i : Installed). i.patch) world.installed ≡ map (λ (i : Installed). i.patch) before.world.installed → log.room ≡ MAX_RECORDS
    → TakesEvent before (record before { world = world; log = log }) catalog catalog event (Ok reply)
