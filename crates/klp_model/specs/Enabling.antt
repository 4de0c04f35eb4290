-- How a patch is enabled, reversed or disabled.
use Rattle.std.specs.Prelude.{ℕ, Bool, true, false, find, Option, Some, None}
use Rattle.klp_types.specs.declared.callback.Which.TheVariants.{Pre, PreUn}
use Rattle.klp_model.specs.declared.event.Reply.{Reply}
use Rattle.klp_model.specs.declared.event.Reply.TheVariants.{Started, Reversed, PreFailed}
use Rattle.klp_types.specs.declared.version.Transition.{Transition}
use Rattle.klp_types.specs.Setting.{Setting, PatchObject, state_ids}
use Rattle.klp_types.specs.World.{World, with_patch, without_patch}
use Rattle.klp_model.specs.Task.{at_target, all_in}
use Rattle.klp_model.specs.State.{State, with_world}
use Rattle.klp_types.specs.Pick.{moves}
use Rattle.klp_model.specs.Callbacks.{loaded_objects, status_of}
use Rattle.klp_types.specs.Callbacks.{calls_of, script_for, refuses, enable_calls, after_calls}

-- the transition of this patch to this target
abbrev pub move_to : ℕ → Bool → Option Transition
move_to patch target = Some (record { patch = patch; target = target })

-- the transition to target 1 starts; or, if the pre-patch callback of an object refused, the patch is removed again
abbrev pub enabled_or_gone : State → ℕ → World → Option (ℕ × PatchObject) → Reply × State
enabled_or_gone state patch world None =
    (Started, record state { world = world; moving = move_to patch true; tasks = all_in (at_target false) state.tasks })
enabled_or_gone state patch world (Some object) =
    (PreFailed patch object.1.object (status_of (script_for Pre object.1.callbacks)), with_world state (without_patch world patch))

-- a patch is added as the newest, its states at 0, and its callbacks run
abbrev pub enabled : Setting → State → ℕ → Reply × State
enabled setting state patch =
    let objects = loaded_objects setting state patch in
    enabled_or_gone state patch (after_calls (with_patch state.world patch (state_ids setting patch)) (enable_calls patch objects)) (find refuses objects)

-- a transition is reversed, and nothing runs; or a disabling starts, with pre-unpatch
abbrev pub turned_or_started : Setting → State → ℕ → Bool → Bool → Reply × State
turned_or_started setting state patch value true = (Reversed, record state { moving = move_to patch value })
turned_or_started setting state patch value false = (
  Started,
  record state {
    world = after_calls state.world (calls_of patch PreUn (loaded_objects setting state patch));
    moving = move_to patch false;
    tasks = all_in (at_target true) state.tasks;
  },
)

abbrev pub turned : Setting → State → ℕ → Bool → Reply × State
turned setting state patch value = turned_or_started setting state patch value (moves state.moving patch)
