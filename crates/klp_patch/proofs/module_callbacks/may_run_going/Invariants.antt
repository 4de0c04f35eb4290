use Rattle.std.proofs.Common.{◌≡◌, drop}
use Rattle.std.specs.List.{flat_map}
use Rattle.klp_model.specs.EventCalls.{going_may_run}
use Rattle.klp_patch.specs.ModuleParts.{parts_in}
use Rattle.klp_patch.specs.Calls.{are_some}
use Rattle.klp_patch.proofs.module_callbacks.may_run_going.Given as goal

-- none is there but among what is left
abbrev pub invariant-loop-patch : goal.invariant-loop-patch
invariant-loop-patch g l =
    are_some (flat_map (going_may_run l.moving) (parts_in l.catalog l.object (drop l.patch-index l.installed)))
    ≡ are_some (flat_map (going_may_run l.moving) (parts_in l.catalog l.object l.installed))
