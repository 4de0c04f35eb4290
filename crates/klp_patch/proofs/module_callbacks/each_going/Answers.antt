use Rattle.std.proofs.Common.{◌+◌, drop, ap}
use Rattle.klp_model.specs.ModuleCalls.{going_calls}
use Rattle.klp_patch.specs.ModuleParts.{parts_at, parts_in}
use Rattle.klp_patch.proofs.ModulePartsLemmas.{parts_so_far, going-next, parts-none_left}
use Rattle.klp_patch.proofs.RanLemmas.{begins, goes_on, all_ran, room_for_next}
use Rattle.klp_patch.proofs.module_callbacks.each_going.Goals as goal

pub loop-patch-init : goal.loop-patch-init
loop-patch-init g c = begins c.args.catalog.now c.args.world.now c.args.log.now (going_calls c.args.moving.now (parts_in c.args.catalog.now c.args.object c.args.installed.now))

pub part_going-requires : goal.part_going-requires
part_going-requires g c =
    let first = c.args.catalog.now in
    let now = c.loop-patch.catalog in
    let moving = c.args.moving.now in
    let left = going_calls moving (parts_in first c.args.object (drop c.loop-patch.patch-index c.args.installed.now)) in
    let rest = going_calls moving (parts_in first c.args.object (drop (c.loop-patch.patch-index + 1) c.args.installed.now)) in
    let all = going_calls moving (parts_in first c.args.object c.args.installed.now) in
    let calls = going_calls moving (parts_at now c.args.object c.patch-item.result) in
    let same = parts_so_far first now c.args.world.now c.loop-patch.world c.args.log.now c.loop-patch.log left all c.args.object c.patch-item.result c.loop-patch.invariant in
    let next = going-next moving first now c.args.object c.args.installed.now c.loop-patch.patch-index c.patch-item.result same c.loop-patch-test.true c.patch-item.is in
    room_for_next first now c.args.world.now c.loop-patch.world c.args.log.now c.loop-patch.log left all calls rest c.requires c.loop-patch.invariant next

pub loop-patch-preserved : goal.loop-patch-preserved
loop-patch-preserved g c =
    let first = c.args.catalog.now in
    let now = c.loop-patch.catalog in
    let moving = c.args.moving.now in
    let left = going_calls moving (parts_in first c.args.object (drop c.loop-patch.patch-index c.args.installed.now)) in
    let rest = going_calls moving (parts_in first c.args.object (drop (c.loop-patch.patch-index + 1) c.args.installed.now)) in
    let all = going_calls moving (parts_in first c.args.object c.args.installed.now) in
    let calls = going_calls moving (parts_at now c.args.object c.patch-item.result) in
    let same = parts_so_far first now c.args.world.now c.loop-patch.world c.args.log.now c.loop-patch.log left all c.args.object c.patch-item.result c.loop-patch.invariant in
    let next = going-next moving first now c.args.object c.args.installed.now c.loop-patch.patch-index c.patch-item.result same c.loop-patch-test.true c.patch-item.is in
    goes_on c.runs_add_up.ensures first now c.part_going.new.catalog c.args.world.now c.loop-patch.world c.part_going.new.world c.args.log.now c.loop-patch.log c.part_going.new.log
    left all calls rest c.loop-patch.invariant next c.part_going.ensures

pub returns : goal.returns
returns g c =
    let first = c.args.catalog.now in
    let moving = c.args.moving.now in
    let left = going_calls moving (parts_in first c.args.object (drop c.loop-patch.patch-index c.args.installed.now)) in
    let all = going_calls moving (parts_in first c.args.object c.args.installed.now) in
    all_ran first c.loop-patch.catalog c.args.world.now c.loop-patch.world c.args.log.now c.loop-patch.log left all c.loop-patch.invariant
    (ap (going_calls moving) (parts-none_left first c.args.object c.args.installed.now c.loop-patch.patch-index c.loop-patch-test.false))
