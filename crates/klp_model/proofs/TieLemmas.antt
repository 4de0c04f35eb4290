-- What a step does to the shadow variables is what its callbacks do.
use Rattle.std.proofs.Common.{◌≡◌, ℕ, zero, suc, Bool, true, false, cond, [], Option, Some, None, refl, ap, ◌∙◌}
use Rattle.std.specs.List.{find}
use Rattle.std.specs.FinMap as finite
use Rattle.klp_types.specs.declared.shadow.ShadowKey.{ShadowKey}
use Rattle.klp_types.specs.declared.callback.Which.TheVariants.{PreUn}
use Rattle.klp_model.specs.declared.event.Event.{Event}
use Rattle.klp_model.specs.declared.event.Event.TheVariants.{Enable, SetEnabled, Force, Poll, Coming, EnterKernel, ExitToUser, Sleep, Wake}
use Rattle.klp_types.specs.declared.version.Transition.{Transition}
use Rattle.klp_types.specs.Setting.{Setting, PatchObject, replaces, state_ids}
use Rattle.klp_types.specs.World.{World, Shadow, variable, with_patch, without_patch}
use Rattle.klp_types.specs.declared.task.Task.{Task}
use Rattle.klp_model.specs.Task.{Tasks, task_at}
use Rattle.klp_model.specs.State.{State, with_world}
use Rattle.klp_types.specs.Pick.{moves}
use Rattle.klp_model.specs.Blocked.{tried, pending}
use Rattle.klp_model.specs.Callbacks.{loaded_objects, end_calls}
use Rattle.klp_types.specs.Callbacks.{refuses, enable_calls, calls_of, after_calls}
use Rattle.klp_model.specs.ModuleCalls.{Part, parts, part_refuses, coming_calls}
use Rattle.klp_model.specs.EventCalls.{once_done, poll_calls, calls}
use Rattle.klp_model.specs.ShadowStep.{shadow_changed}
use Rattle.klp_model.specs.Enabling.{enabled_or_gone, turned_or_started}
use Rattle.klp_model.specs.Forcing.{forced}
use Rattle.klp_model.specs.Completing.{without_older, completed_or_pending, polled}
use Rattle.klp_model.specs.ModuleStep.{come_or_refused}
use Rattle.klp_model.specs.TaskStep.{change_task}
use Rattle.klp_model.specs.Step.{accepted}
use Rattle.klp_types.proofs.ScriptLemmas.{after_same}

enable_tie : (state : State) (patch : ℕ) (world : World) (found : Option (ℕ × PatchObject)) (key : ShadowKey)
    → variable (enabled_or_gone state patch world found).1.world key ≡ variable world key
enable_tie state patch world None key = refl
enable_tie state patch world (Some object) key = refl

turn_tie : (setting : Setting) (state : State) (patch : ℕ) (value t : Bool) (key : ShadowKey)
    → variable (turned_or_started setting state patch value t).1.world key ≡ variable (after_calls state.world (cond t [] (calls_of patch PreUn (loaded_objects setting state patch)))) key
turn_tie setting state patch value true key = refl
turn_tie setting state patch value false key = refl

older_tie : (replace : Bool) (world : World) (patch : ℕ) (key : ShadowKey) → variable (without_older replace world patch) key ≡ variable world key
older_tie true world patch key = refl
older_tie false world patch key = refl

settle_tie : (replace target : Bool) (world : World) (patch : ℕ) (key : ShadowKey)
    → variable (cond target (without_older replace world patch) (without_patch world patch)) key ≡ variable world key
settle_tie replace true world patch key = older_tie replace world patch key
settle_tie replace false world patch key = refl

poll_tie : (setting : Setting) (state : State) (move : Transition) (tasks : Tasks) (left : ℕ) (key : ShadowKey)
    → variable (completed_or_pending setting state move tasks left).1.world key ≡ variable (after_calls state.world (once_done left (end_calls setting state (Some move)))) key
poll_tie setting state move tasks zero key =
    settle_tie (replaces setting move.patch) move.target (after_calls state.world (end_calls setting state (Some move))) move.patch key
poll_tie setting state move tasks (suc left) key = refl

polled_tie : (setting : Setting) (state : State) (moving : Option Transition) (key : ShadowKey)
    → variable (polled setting state moving).1.world key ≡ variable (after_calls state.world (poll_calls setting state moving)) key
polled_tie setting state None key = refl
polled_tie setting state (Some move) key = poll_tie setting state move (tried setting state move) (pending setting state move) key

come_tie : (state : State) (object : ℕ) (found : Option Part) (key : ShadowKey) → variable (come_or_refused state object found).1.world key ≡ variable state.world key
come_tie state object None key = refl
come_tie state object (Some part) key = refl

change_tie : (state : State) (number : ℕ) (f : Task → Task) (task : Option Task) (key : ShadowKey) → variable (change_task state number f task).world key ≡ variable state.world key
change_tie state number f None key = refl
change_tie state number f (Some task) key = refl

force_tie : (setting : Setting) (state : State) (moving : Option Transition) (key : ShadowKey) → variable (forced setting state moving).1.world key ≡ variable state.world key
force_tie setting state None key = refl
force_tie setting state (Some move) key = refl

pub step_tie : (setting : Setting) (state : State) (event : Event) (key : ShadowKey)
    → variable (accepted setting state event).1.world key ≡ variable (after_calls (shadow_changed state.world event) (calls setting state event)) key
step_tie setting state (Enable patch) key =
    let cs = enable_calls patch (loaded_objects setting state patch) in
    let put = with_patch state.world patch (state_ids setting patch) in
    enable_tie state patch (after_calls put cs) (find refuses (loaded_objects setting state patch)) key ∙ ap (λ (s : Shadow). finite.get s key) (after_same put state.world cs refl)
step_tie setting state (SetEnabled patch value) key = turn_tie setting state patch value (moves state.moving patch) key
step_tie setting state (Force patch) key = force_tie setting state state.moving key
step_tie setting state Poll key = polled_tie setting state state.moving key
step_tie setting state (Coming object) key =
    come_tie (with_world state (after_calls state.world (coming_calls state.moving (parts setting state object)))) object (find part_refuses (parts setting state object)) key
step_tie setting state (EnterKernel task) key = change_tie state task _ (task_at state.tasks task) key
step_tie setting state (ExitToUser task) key = change_tie state task _ (task_at state.tasks task) key
step_tie setting state (Sleep task frames) key = change_tie state task _ (task_at state.tasks task) key
step_tie setting state (Wake task) key = change_tie state task _ (task_at state.tasks task) key
step_tie setting state other key = refl
