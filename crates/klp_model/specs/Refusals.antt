-- Why events are refused.
use Rattle.std.specs.Prelude.{◌≡◌, ℕ, ◌==◌, Bool, true, false, not, ◌&&◌, ◌||◌, is_some, is_none, nat_lt, nat_le, List, [], ◌∷◌, length, map, Option, Some, None}
use Rattle.std.specs.List.{list_any}
use Rattle.std.specs.FinMap as finite
use Rattle.klp_types.specs.declared.limits.TheConstants.{MAX_VARIABLES, MAX_TASKS}
use Rattle.klp_types.specs.declared.task.Mode.TheVariants.{User, Kernel, Asleep}
use Rattle.klp_model.specs.declared.event.Event.{Event}
use Rattle.klp_model.specs.declared.event.Event.TheVariants.{Enable, SetEnabled, Force, Poll, Coming, Going, NewTask, Fork, EndTask, EnterKernel, ExitToUser, Sleep, Wake, ShadowAlloc, ShadowGetOrAlloc, ShadowFree, ShadowFreeAll}
use Rattle.klp_model.specs.declared.event.Refusal.{Refusal}
use Rattle.klp_model.specs.declared.event.Refusal.TheVariants.{NoPatch, Busy, AlreadyThere, Pinned, Incompatible, NoSymbol, NoModule, InUse, NoTask, TaskThere, WrongMode, BadFrame, Full, NotMoving, Exists, NotFound, SameValue}
use Rattle.klp_types.specs.declared.version.Transition.{Transition}
use Rattle.klp_types.specs.FirstOf.{first_of}
use Rattle.klp_types.specs.Compatible as compatible
use Rattle.klp_types.specs.Setting.{Setting, PatchObject, Function, objects_of, replaces, named_states}
use Rattle.klp_types.specs.World.{World, variable}
use Rattle.klp_model.specs.Task.{task_at, is_in}
use Rattle.klp_model.specs.State.{State, is_flagged, is_loaded, installed_patches, is_installed, is_pinned, is_moving}
use Rattle.klp_types.specs.Pick.{moves}
use Rattle.klp_model.specs.ModuleCalls.{Part, parts}
use Rattle.klp_model.specs.EventCalls.{lacks_room}
use Rattle.klp_model.specs.Frames.{is_bad, is_inside}

-- whether the catalog has the patch
abbrev pub has_patch : Setting → ℕ → Bool
has_patch setting patch = nat_lt patch (length setting.patches)

-- whether there is no room for another shadow variable
abbrev pub is_full : World → Bool
is_full world = nat_le MAX_VARIABLES (finite.len world.shadow)

-- whether the patch has a function for this object that names no site of it
abbrev pub lacks_symbol_of : PatchObject → Bool
lacks_symbol_of object = list_any (λ (f : Function). is_none f.site) object.functions

-- whether the patch has a function that names no site, for an object that is loaded by these flags
abbrev pub lacks_symbol : Setting → List Bool → ℕ → Bool
lacks_symbol setting loaded patch = list_any (λ (o : PatchObject). is_flagged loaded o.object && lacks_symbol_of o) (objects_of setting patch)

-- whether an installed patch has a function for this module that names no site of it
abbrev pub part_lacks_symbol : Setting → State → ℕ → Bool
part_lacks_symbol setting state object = list_any (λ (p : Part). lacks_symbol_of p.1.1) (parts setting state object)

-- whether the patch is compatible with the system states of each installed patch
abbrev pub is_compatible : Setting → State → ℕ → Bool
is_compatible setting state patch =
    compatible.is_compatible (replaces setting patch) (named_states setting patch) (map (named_states setting) (installed_patches state))

-- whether the patch is in transition to target 0
abbrev pub moves_out : Option Transition → ℕ → Bool
moves_out None patch = false
moves_out (Some move) patch = move.patch == patch && not move.target

abbrev pub same_bool : Bool → Bool → Bool
same_bool true value = value
same_bool false value = not value

-- the value of the `enabled` file of an installed patch
abbrev pub enabled_value : State → ℕ → Bool
enabled_value state patch = not (moves_out state.moving patch)

abbrev pub is_module : Setting → ℕ → Bool
is_module setting object = not (object == 0) && nat_lt object (length setting.image.objects)

abbrev pub is_there : State → ℕ → Bool
is_there state task = is_some (task_at state.tasks task)

-- the reasons to refuse an event, in the order in which they are checked
abbrev pub refusals : Setting → State → Event → List (Bool × Refusal)
refusals setting state (Enable patch) =
    (not (has_patch setting patch), NoPatch) ∷ (is_installed state patch, AlreadyThere) ∷ (is_moving state, Busy) ∷ (is_pinned state patch, Pinned)
    ∷ (not (is_compatible setting state patch), Incompatible) ∷ (lacks_symbol setting state.loaded patch, NoSymbol)
    ∷ (lacks_room setting state (Enable patch), Full) ∷ []
refusals setting state (SetEnabled patch value) =
    (not (has_patch setting patch), NoPatch) ∷ (not (is_installed state patch), NotFound) ∷ (same_bool value (enabled_value state patch), SameValue)
    ∷ (not value && is_moving state && not (moves state.moving patch), Busy) ∷ (lacks_room setting state (SetEnabled patch value), Full) ∷ []
refusals setting state (Force patch) =
    (not (has_patch setting patch), NoPatch) ∷ (not (is_installed state patch), NotFound) ∷ (not (moves state.moving patch), NotMoving) ∷ []
refusals setting state Poll = (not (is_moving state), NotMoving) ∷ (lacks_room setting state Poll, Full) ∷ []
refusals setting state (Coming object) =
    (not (is_module setting object), NoModule) ∷ (is_loaded state object, AlreadyThere) ∷ (part_lacks_symbol setting state object, NoSymbol)
    ∷ (lacks_room setting state (Coming object), Full) ∷ []
refusals setting state (Going object) =
    (not (is_module setting object && is_loaded state object), NoModule) ∷ (list_any (is_inside setting object) state.tasks, InUse)
    ∷ (lacks_room setting state (Going object), Full) ∷ []
refusals setting state (NewTask task) = (nat_le MAX_TASKS task, NoTask) ∷ (is_there state task, TaskThere) ∷ []
refusals setting state (Fork parent child) =
    (not (is_there state parent) || nat_le MAX_TASKS child, NoTask) ∷ (is_there state child, TaskThere)
    ∷ (not (is_in Kernel (task_at state.tasks parent)), WrongMode) ∷ []
refusals setting state (EndTask task) = (not (is_there state task), NoTask) ∷ (is_in Asleep (task_at state.tasks task), WrongMode) ∷ []
refusals setting state (EnterKernel task) = (not (is_there state task), NoTask) ∷ (not (is_in User (task_at state.tasks task)), WrongMode) ∷ []
refusals setting state (ExitToUser task) = (not (is_there state task), NoTask) ∷ (not (is_in Kernel (task_at state.tasks task)), WrongMode) ∷ []
refusals setting state (Sleep task frames) =
    (not (is_there state task), NoTask) ∷ (not (is_in Kernel (task_at state.tasks task)), WrongMode) ∷ (list_any (is_bad setting) frames, BadFrame) ∷ []
refusals setting state (Wake task) = (not (is_there state task), NoTask) ∷ (not (is_in Asleep (task_at state.tasks task)), WrongMode) ∷ []
refusals setting state (ShadowAlloc key value) = (is_some (variable state.world key), Exists) ∷ (is_full state.world, Full) ∷ []
refusals setting state (ShadowGetOrAlloc key value) = (is_none (variable state.world key) && is_full state.world, Full) ∷ []
refusals setting state (ShadowFree key) = []
refusals setting state (ShadowFreeAll id) = []

-- the first reason that holds, if any
abbrev pub refusal : Setting → State → Event → Option Refusal
refusal setting state event = first_of (refusals setting state event)

abbrev pub accepts : Setting → State → Event → Bool
accepts setting state event = is_none (refusal setting state event)

-- none of the cases holds
abbrev pub NoneHolds : List (Bool × Refusal) → Type 0
NoneHolds [] = Unit {0}
NoneHolds (case ∷ cases) = (case.0 ≡ false) × NoneHolds cases
