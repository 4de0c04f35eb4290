use Rattle.std.proofs.Common.{◌≡◌, drop}
use Rattle.std.specs.Prelude.{find}
use Rattle.klp_types.specs.Callbacks.{refuses}
use Rattle.klp_catalog.specs.Runs.{objects_at}
use Rattle.klp_patch.specs.Loaded.{is_loaded_in, loaded_from}
use Rattle.klp_patch.specs.Refusing.{pre_calls}
use Rattle.klp_patch.proofs.RanLemmas.{SoFar}
use Rattle.klp_patch.proofs.patch_callbacks.pre_patch.Given as goal

-- the callbacks of the objects so far have run, and none of them refused
abbrev pub invariant-loop-place : goal.invariant-loop-place
invariant-loop-place g l =
    let objects = objects_at l.fn.catalog l.patch in
    let all = loaded_from (is_loaded_in l.modules) 0 objects in
    let left = loaded_from (is_loaded_in l.modules) l.place (drop l.place objects) in
    record {
      ran : SoFar l.fn.catalog l.catalog l.fn.world l.world l.fn.log l.log (pre_calls l.patch left) (pre_calls l.patch all);
      refused : find refuses left ≡ find refuses all;
    }
