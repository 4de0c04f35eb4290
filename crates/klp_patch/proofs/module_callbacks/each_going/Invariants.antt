use Rattle.std.proofs.Common.{drop}
use Rattle.klp_model.specs.ModuleCalls.{going_calls}
use Rattle.klp_patch.specs.ModuleParts.{parts_in}
use Rattle.klp_patch.proofs.RanLemmas.{SoFar}
use Rattle.klp_patch.proofs.module_callbacks.each_going.Given as goal

-- the callbacks of the patches so far have run
abbrev pub invariant-loop-patch : goal.invariant-loop-patch
invariant-loop-patch g l =
    SoFar l.fn.catalog l.catalog l.fn.world l.world l.fn.log l.log
    (going_calls l.moving (parts_in l.fn.catalog l.object (drop l.patch-index l.installed)))
    (going_calls l.moving (parts_in l.fn.catalog l.object l.installed))
