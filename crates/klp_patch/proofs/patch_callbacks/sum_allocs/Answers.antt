use Rattle.std.proofs.Common.{◌+◌, ◌∙◌, ap, arith}
use Rattle.klp_types.specs.Callbacks.{allocs_of}
use Rattle.klp_patch.specs.Loaded.{is_loaded_in}
use Rattle.klp_patch.specs.Refusing.{loaded_call}
use Rattle.klp_catalog.specs.Runs.{objects_at}
use Rattle.klp_patch.specs.Calls.{records_of}
use Rattle.klp_patch.proofs.CallLemmas.{allocs-append}
use Rattle.klp_patch.proofs.RanLemmas.{records-append}
use Rattle.klp_patch.proofs.LoopLemmas.{left_from, next_left}
use Rattle.klp_patch.proofs.patch_callbacks.sum_allocs.Goals as goal

pub loop-place-preserved : goal.loop-place-preserved
loop-place-preserved g c =
    let objects = objects_at c.args.catalog.now c.args.patch in
    let loaded = is_loaded_in c.args.modules.now in
    let next = next_left loaded c.args.patch c.args.which objects c.loop-place.place (omega (arith, c.loop-place-test.true, c.target_len-place-end.ensures.count)) in
    let sum = ap allocs_of next ∙ allocs-append (loaded_call c.args.catalog.now c.args.modules.now c.args.patch c.args.which c.loop-place.place)
    (left_from loaded c.args.patch c.args.which (c.loop-place.place + 1) objects)
    in
    let records = ap records_of next ∙ records-append (loaded_call c.args.catalog.now c.args.modules.now c.args.patch c.args.which c.loop-place.place)
    (left_from loaded c.args.patch c.args.which (c.loop-place.place + 1) objects)
    in
    record {
      sum = omega (arith, sum, c.from-sum.ensures, c.allocs_where_loaded.ensures.value, c.loop-place.invariant.sum);
      few = omega (arith, c.from-sum.ensures, c.allocs_where_loaded.ensures.limit, c.loop-place.invariant.few);
      records = omega (arith, records, c.allocs_where_loaded.ensures.records, c.loop-place.invariant.records);
    }
