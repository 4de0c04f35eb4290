use Rattle.std.proofs.Common.{take}
use Rattle.klp_catalog.specs.Runs.{objects_at}
use Rattle.klp_patch.specs.Loaded.{is_loaded_in}
use Rattle.klp_patch.specs.Refusing.{loaded_calls}
use Rattle.klp_patch.proofs.LoopLemmas.{left_from}
use Rattle.klp_patch.proofs.RanLemmas.{SoFar}
use Rattle.klp_patch.proofs.patch_callbacks.run_first.Given as goal

-- the callbacks of the objects so far have run
abbrev pub invariant-loop-place : goal.invariant-loop-place
invariant-loop-place g l =
    SoFar l.fn.catalog l.catalog l.fn.world l.world l.fn.log l.log
    (left_from (is_loaded_in l.modules) l.patch l.which l.place (take l.end (objects_at l.fn.catalog l.patch)))
    (loaded_calls l.fn.catalog l.modules l.patch l.which l.end)
