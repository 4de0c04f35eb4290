-- The callbacks that an event runs, and those for which there must be room.
use Rattle.std.specs.Prelude.{ℕ, zero, suc, ◌+◌, Bool, nat_lt, List, [], ◌++◌, Option, Some, None, if◌then◌else◌}
use Rattle.std.specs.List.{flat_map}
use Rattle.std.specs.FinMap as finite
use Rattle.klp_types.specs.declared.limits.TheConstants.{MAX_VARIABLES}
use Rattle.klp_types.specs.declared.callback.Which.TheVariants.{Pre, Post, PreUn, PostUn}
use Rattle.klp_model.specs.declared.event.Event.{Event}
use Rattle.klp_model.specs.declared.event.Event.TheVariants.{Enable, SetEnabled, Poll, Coming, Going}
use Rattle.klp_types.specs.declared.version.Transition.{Transition}
use Rattle.klp_types.specs.Setting.{Setting}
use Rattle.klp_model.specs.State.{State}
use Rattle.klp_types.specs.Pick.{moves}
use Rattle.klp_model.specs.Blocked.{pending}
use Rattle.klp_types.specs.Callbacks.{allocs_of, Call, calls_of, enable_calls}
use Rattle.klp_model.specs.Callbacks.{loaded_objects, end_calls}
use Rattle.klp_model.specs.ModuleCalls.{Part, parts, part_call, still_call, coming_calls, going_calls}

-- a disabling begins with pre-unpatch; a reversal runs nothing
abbrev pub disable_calls : Setting → State → ℕ → List Call
disable_calls setting state patch =
    if moves state.moving patch then [] else calls_of patch PreUn (loaded_objects setting state patch)

-- nothing runs while tasks are pending
abbrev pub once_done : ℕ → List Call → List Call
once_done zero calls = calls
once_done (suc left) calls = []

abbrev pub poll_calls : Setting → State → Option Transition → List Call
poll_calls setting state None = []
poll_calls setting state (Some move) = once_done (pending setting state move) (end_calls setting state (Some move))

-- the callbacks that an accepted event runs
abbrev pub calls : Setting → State → Event → List Call
calls setting state (Enable patch) = enable_calls patch (loaded_objects setting state patch)
calls setting state (SetEnabled patch value) = disable_calls setting state patch
calls setting state Poll = poll_calls setting state state.moving
calls setting state (Coming object) = coming_calls state.moving (parts setting state object)
calls setting state (Going object) = going_calls state.moving (parts setting state object)
calls setting state other = []

abbrev pub going_may_run : Option Transition → Part → List Call
going_may_run moving part = part_call PostUn part ++ still_call moving PreUn part

abbrev pub coming_may_run : Option Transition → Part → List Call
coming_may_run moving part = part_call Pre part ++ part_call PostUn part ++ still_call moving Post part ++ still_call moving PreUn part

-- the callbacks for which there must be room, whatever statuses they return
abbrev pub may_run : Setting → State → Event → List Call
may_run setting state (Enable patch) =
    calls_of patch Pre (loaded_objects setting state patch) ++ calls_of patch PostUn (loaded_objects setting state patch)
may_run setting state (SetEnabled patch value) = disable_calls setting state patch
may_run setting state Poll = end_calls setting state state.moving
may_run setting state (Coming object) = flat_map (coming_may_run state.moving) (parts setting state object)
may_run setting state (Going object) = flat_map (going_may_run state.moving) (parts setting state object)
may_run setting state other = []

-- whether there is no room for what the callbacks may add
abbrev pub lacks_room : Setting → State → Event → Bool
lacks_room setting state event = nat_lt MAX_VARIABLES (finite.len state.world.shadow + allocs_of (may_run setting state event))
