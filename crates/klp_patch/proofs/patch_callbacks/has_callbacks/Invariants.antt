use Rattle.std.proofs.Common.{◌≡◌}
use Rattle.klp_types.specs.Callbacks.{calls_of}
use Rattle.klp_catalog.specs.Runs.{objects_at}
use Rattle.klp_patch.specs.Loaded.{is_loaded_in, loaded_from}
use Rattle.klp_patch.specs.Calls.{are_some}
use Rattle.klp_patch.proofs.LoopLemmas.{left_from}
use Rattle.klp_patch.proofs.patch_callbacks.has_callbacks.Given as goal

-- none is there but among what is left
abbrev pub invariant-loop-place : goal.invariant-loop-place
invariant-loop-place g l =
    are_some (left_from (is_loaded_in l.modules) l.patch l.which l.place (objects_at l.catalog l.patch))
    ≡ are_some (calls_of l.patch l.which (loaded_from (is_loaded_in l.modules) 0 (objects_at l.catalog l.patch)))
