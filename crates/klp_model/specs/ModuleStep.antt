-- How a module is loaded or unloaded.
use Rattle.std.specs.Prelude.{ℕ, Bool, true, false, find, Option, Some, None, slice_set}
use Rattle.klp_types.specs.declared.callback.Which.TheVariants.{Pre}
use Rattle.klp_model.specs.declared.event.Reply.{Reply}
use Rattle.klp_model.specs.declared.event.Reply.TheVariants.{Done, PreFailed}
use Rattle.klp_types.specs.Setting.{Setting}
use Rattle.klp_model.specs.State.{State, with_world}
use Rattle.klp_types.specs.Callbacks.{script_for, after_calls}
use Rattle.klp_model.specs.Callbacks.{status_of}
use Rattle.klp_model.specs.ModuleCalls.{Part, parts, part_refuses, coming_calls, going_calls}

abbrev pub with_loaded : State → ℕ → Bool → State
with_loaded state object flag = record state { loaded = slice_set state.loaded object flag }

-- the module is loaded, or the pre-patch callback of a patch refused it
abbrev pub come_or_refused : State → ℕ → Option Part → Reply × State
come_or_refused state object None = (Done, with_loaded state object true)
come_or_refused state object (Some part) = (PreFailed part.0 object (status_of (script_for Pre part.1.1.callbacks)), state)

abbrev pub come : Setting → State → ℕ → Reply × State
come setting state object =
    come_or_refused (with_world state (after_calls state.world (coming_calls state.moving (parts setting state object)))) object
    (find part_refuses (parts setting state object))

abbrev pub gone : Setting → State → ℕ → Reply × State
gone setting state object =
    (Done, with_loaded (with_world state (after_calls state.world (going_calls state.moving (parts setting state object)))) object false)
