-- The objects of a patch for which callbacks run, what runs at the end of a transition, and the status of a
-- callback.
use Rattle.std.specs.Prelude.{ℕ, ℤ, pos, List, [], Option, Some, None}
use Rattle.std.specs.List.{filter, enumerate_from}
use Rattle.klp_types.specs.declared.version.Transition.{Transition}
use Rattle.klp_types.specs.Setting.{Setting, PatchObject, objects_of}
use Rattle.klp_types.specs.Script.{Script}
use Rattle.klp_types.specs.Callbacks.{Call, calls_of, end_of}
use Rattle.klp_model.specs.State.{State, is_loaded}

-- the objects of a patch that are loaded, each with its index among the patch's objects
abbrev pub loaded_objects : Setting → State → ℕ → List (ℕ × PatchObject)
loaded_objects setting state patch = filter (λ (o : ℕ × PatchObject). is_loaded state o.1.object) (enumerate_from 0 (objects_of setting patch))

-- the callbacks that run when the transition completes
abbrev pub end_calls : Setting → State → Option Transition → List Call
end_calls setting state None = []
end_calls setting state (Some move) = calls_of move.patch (end_of move.target) (loaded_objects setting state move.patch)

-- the status that a callback returns; a missing callback counts as one that succeeds
abbrev pub status_of : Option Script → ℤ
status_of None = pos 0
status_of (Some script) = script.status
