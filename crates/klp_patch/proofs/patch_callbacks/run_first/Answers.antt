use Rattle.std.proofs.Common.{◌+◌, arith, take}
use Rattle.std.proofs.lemmas.List.{length-take-le}
use Rattle.klp_catalog.specs.Runs.{objects_at}
use Rattle.klp_patch.specs.Loaded.{is_loaded_in}
use Rattle.klp_patch.specs.Refusing.{loaded_call, loaded_calls}
use Rattle.klp_patch.proofs.LoopLemmas.{left_from, next_loaded, none_left}
use Rattle.klp_patch.proofs.RanLemmas.{begins, goes_on, all_ran, room_for_next, objects_so_far}
use Rattle.klp_patch.proofs.patch_callbacks.run_first.Goals as goal

pub loop-place-init : goal.loop-place-init
loop-place-init g c = begins c.args.catalog.now c.args.world.now c.args.log.now (loaded_calls c.args.catalog.now c.args.modules.now c.args.patch c.args.which c.args.end)

pub run_where_loaded-requires : goal.run_where_loaded-requires
run_where_loaded-requires g c =
    let first = c.args.catalog.now in
    let now = c.loop-place.catalog in
    let objects = take c.args.end (objects_at first c.args.patch) in
    let left = left_from (is_loaded_in c.args.modules.now) c.args.patch c.args.which c.loop-place.place objects in
    let rest = left_from (is_loaded_in c.args.modules.now) c.args.patch c.args.which (c.loop-place.place + 1) objects in
    let call = loaded_call now c.args.modules.now c.args.patch c.args.which c.loop-place.place in
    let all = loaded_calls first c.args.modules.now c.args.patch c.args.which c.args.end in
    let same = objects_so_far first now c.args.world.now c.loop-place.world c.args.log.now c.loop-place.log left all c.args.patch c.loop-place.invariant in
    let next = next_loaded now first c.args.modules.now c.args.patch c.args.which c.args.end c.loop-place.place same c.loop-place-test.true c.requires.end in
    room_for_next first now c.args.world.now c.loop-place.world c.args.log.now c.loop-place.log left all call rest c.requires.room c.loop-place.invariant next

pub loop-place-preserved : goal.loop-place-preserved
loop-place-preserved g c =
    let first = c.args.catalog.now in
    let now = c.loop-place.catalog in
    let objects = take c.args.end (objects_at first c.args.patch) in
    let left = left_from (is_loaded_in c.args.modules.now) c.args.patch c.args.which c.loop-place.place objects in
    let rest = left_from (is_loaded_in c.args.modules.now) c.args.patch c.args.which (c.loop-place.place + 1) objects in
    let call = loaded_call now c.args.modules.now c.args.patch c.args.which c.loop-place.place in
    let all = loaded_calls first c.args.modules.now c.args.patch c.args.which c.args.end in
    let same = objects_so_far first now c.args.world.now c.loop-place.world c.args.log.now c.loop-place.log left all c.args.patch c.loop-place.invariant in
    let next = next_loaded now first c.args.modules.now c.args.patch c.args.which c.args.end c.loop-place.place same c.loop-place-test.true c.requires.end in
    goes_on c.runs_add_up.ensures first now c.run_where_loaded.new.catalog c.args.world.now c.loop-place.world c.run_where_loaded.new.world
    c.args.log.now c.loop-place.log c.run_where_loaded.new.log left all call rest c.loop-place.invariant next c.run_where_loaded.ensures.ran

pub returns : goal.returns
returns g c =
    let first = c.args.catalog.now in
    let objects = take c.args.end (objects_at first c.args.patch) in
    let loaded = is_loaded_in c.args.modules.now in
    let left = left_from loaded c.args.patch c.args.which c.loop-place.place objects in
    let all = loaded_calls first c.args.modules.now c.args.patch c.args.which c.args.end in
    let past = c.loop-place-test.false in
    all_ran first c.loop-place.catalog c.args.world.now c.loop-place.world c.args.log.now c.loop-place.log left all c.loop-place.invariant
    (none_left loaded c.args.patch c.args.which objects c.loop-place.place
    (omega (arith, past, length-take-le c.args.end (objects_at first c.args.patch) c.requires.end)))
