-- One event: a refusal, or a reply and the next state.
use Rattle.std.specs.Prelude.{unwrap_or, is_some, List, [], Option, Some, None, Result, if◌then◌else◌}
use Rattle.klp_types.specs.declared.task.Mode.TheVariants.{Kernel, Asleep}
use Rattle.klp_model.specs.declared.event.Event.{Event}
use Rattle.klp_model.specs.declared.event.Event.TheVariants.{Enable, SetEnabled, Force, Poll, Coming, Going, NewTask, Fork, EndTask, EnterKernel, ExitToUser, Sleep, Wake, ShadowAlloc, ShadowGetOrAlloc, ShadowFree, ShadowFreeAll}
use Rattle.klp_model.specs.declared.event.Reply.{Reply}
use Rattle.klp_model.specs.declared.event.Reply.TheVariants.{Done, Value, Freed, Woken}
use Rattle.klp_model.specs.declared.event.Refusal.{Refusal}
use Rattle.klp_types.specs.FirstOf.{unless}
use Rattle.klp_types.specs.Frames.{frames_of}
use Rattle.klp_types.specs.Setting.{Setting}
use Rattle.klp_types.specs.World.{variable}
use Rattle.klp_types.specs.declared.task.Task.{Task}
use Rattle.klp_model.specs.Task.{task_at}
use Rattle.klp_model.specs.State.{State, with_world}
use Rattle.klp_types.specs.Callbacks.{Call}
use Rattle.klp_model.specs.EventCalls.{calls}
use Rattle.klp_model.specs.ShadowStep.{shadow_changed, freed_count}
use Rattle.klp_model.specs.Refusals.{refusal}
use Rattle.klp_model.specs.Enabling.{enabled, turned}
use Rattle.klp_model.specs.Forcing.{forced}
use Rattle.klp_model.specs.Completing.{polled}
use Rattle.klp_model.specs.ModuleStep.{come, gone}
use Rattle.klp_model.specs.TaskStep.{state_wanted, change, put_task, new_task, state_of_task, exited}

-- the reply and the next state of an event that isn't refused. So `Force` needn't check its patch, which is the one
-- in transition, and a `SetEnabled` that starts a transition has the value false
abbrev pub accepted : Setting → State → Event → Reply × State
accepted setting state (Enable patch) = enabled setting state patch
accepted setting state (SetEnabled patch value) = turned setting state patch value
accepted setting state (Force patch) = forced setting state state.moving
accepted setting state Poll = polled setting state state.moving
accepted setting state (Coming object) = come setting state object
accepted setting state (Going object) = gone setting state object
accepted setting state (NewTask task) = (Done, put_task state task (Some (new_task (state_wanted state.moving))))
accepted setting state (Fork parent child) =
    (Done, put_task state child (Some (record { state = state_of_task (task_at state.tasks parent); mode = Kernel; frames = [] })))
accepted setting state (EndTask task) = (Done, put_task state task None)
accepted setting state (EnterKernel task) = (Done, change state task (λ (t : Task). record t { mode = Kernel }))
accepted setting state (ExitToUser task) = (Done, change state task (exited state.moving))
accepted setting state (Sleep task frames) = (Done, change state task (λ (t : Task). record t { mode = Asleep; frames = frames }))
accepted setting state (Wake task) = (Woken (frames_of (task_at state.tasks task)), change state task (λ (t : Task). record t { mode = Kernel; frames = [] }))
accepted setting state (ShadowAlloc key value) = (Done, with_world state (shadow_changed state.world (ShadowAlloc key value)))
accepted setting state (ShadowGetOrAlloc key value) =
    (Value (unwrap_or (variable state.world key) value), with_world state (shadow_changed state.world (ShadowGetOrAlloc key value)))
accepted setting state (ShadowFree key) =
    (Freed (if is_some (variable state.world key) then 1 else 0), with_world state (shadow_changed state.world (ShadowFree key)))
accepted setting state (ShadowFreeAll id) =
    (Freed (freed_count state.world id), with_world state (shadow_changed state.world (ShadowFreeAll id)))

abbrev pub step : Setting → State → Event → Result (Reply × State) Refusal
step setting state event = unless (refusal setting state event) (accepted setting state event)

abbrev pub calls_unless : Option Refusal → List Call → List Call
calls_unless None calls = calls
calls_unless (Some refusal) calls = []

-- the callbacks that an event runs, in order; none if it is refused
abbrev pub callbacks_of : Setting → State → Event → List Call
callbacks_of setting state event = calls_unless (refusal setting state event) (calls setting state event)
