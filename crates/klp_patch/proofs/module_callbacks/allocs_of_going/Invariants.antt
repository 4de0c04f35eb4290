use Rattle.std.proofs.Common.{◌≡◌, ◌+◌, ◌*◌, ◌≤◌, drop}
use Rattle.std.specs.List.{flat_map}
use Rattle.klp_types.specs.Callbacks.{allocs_of}
use Rattle.klp_model.specs.EventCalls.{going_may_run}
use Rattle.klp_patch.specs.ModuleParts.{parts_in}
use Rattle.klp_patch.specs.Calls.{records_of}
use Rattle.klp_patch.proofs.module_callbacks.allocs_of_going.Given as goal

-- what is counted and what is left are all
abbrev pub invariant-loop-patch : goal.invariant-loop-patch
invariant-loop-patch g l =
    let all = flat_map (going_may_run l.moving) (parts_in l.catalog l.object l.installed) in
    let left = flat_map (going_may_run l.moving) (parts_in l.catalog l.object (drop l.patch-index l.installed)) in
    record {
      sum : l.sum + allocs_of left ≡ allocs_of all;
      few : l.sum ≤ 32 * l.patch-index;
      records : records_of all ≤ 32 * l.patch-index + l.sum + records_of left;
    }
