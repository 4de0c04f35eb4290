-- Task events, where nothing refuses them.
use Rattle.std.proofs.Common.{◌≡◌, ℕ, [], ◌∷◌, None, Ok, refl, sym, ap, ◌∙◌}
use Rattle.klp_types.specs.declared.record.Record.{Record}
use Rattle.klp_types.specs.Records.{RecordList}
use Rattle.klp_types.specs.declared.task.Task.{Task}
use Rattle.klp_model.specs.declared.event.Event.{Event}
use Rattle.klp_model.specs.declared.event.Reply.{Reply}
use Rattle.klp_model.specs.EventCalls.{calls}
use Rattle.klp_model.specs.State.{State, with_tasks}
use Rattle.klp_model.specs.Step.{accepted}
use Rattle.klp_model.specs.Task.{Tasks}
use Rattle.klp_model.specs.TaskStep.{change}
use Rattle.klp_catalog.specs.Catalog.{Catalog}
use Rattle.klp_tasks.specs.Changes.{changed}
use Rattle.klp_manager_state.specs.declared.state.ManagerState.{ManagerState}
use Rattle.klp_manager_state.specs.Alone.{AreTasksTaken}
use Rattle.klp_manager_state.specs.Events.{TakesEvent}
use Rattle.klp_manager_state.specs.Invariant.{Invariant}
use Rattle.klp_manager_state.specs.Managed.{setting_in, state_in, refused_in}
use Rattle.klp_manager_state.specs.StepLaws.{StepLaws}

-- an event that nothing refuses and that changes one task alone is taken
pub task_taken : AreTasksTaken → StepLaws → (before : ManagerState) (catalog : Catalog) (tasks : Tasks) (log : RecordList) (row : Record) (event : Event) (reply : Reply)
    → Invariant before catalog
    → None ≡ refused_in before catalog event
    → calls (setting_in before catalog) (state_in before catalog) event ≡ []
    → accepted (setting_in before catalog) (state_in before catalog) event ≡ (reply, with_tasks (state_in before catalog) tasks)
    → log ≡ record before.log { logged = row ∷ [] } → TakesEvent before (record before { tasks = tasks; log = log }) catalog catalog event (Ok reply)
task_taken law steps before catalog tasks log row event reply holds free quiet is log_is =
    law steps before catalog tasks log event reply holds (sym free) quiet is (ap (λ (l : RecordList). l.room) log_is ∙ holds.room)

-- what a change of a row leaves is what the step says
pub changed_as_said : (law : (state : State) (number : ℕ) (f : Task → Task) → change state number f ≡ with_tasks state (changed state.tasks number f))
    → (state : State) (number : ℕ) (f : Task → Task) (tasks : Tasks) (reply : Reply) → tasks ≡ changed state.tasks number f
    → (◌≡◌ {A = Reply × State} (reply, change state number f) (reply, with_tasks state tasks))
changed_as_said law state number f tasks reply is = rw (law state number f, is) refl
