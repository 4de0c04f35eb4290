use Rattle.std.proofs.Common.{◌+◌, sym, ap, ◌∙◌, refl, arith}
use Rattle.klp_catalog.specs.Runs.{objects_at}
use Rattle.klp_patch.specs.Loaded.{is_loaded_in}
use Rattle.klp_patch.specs.Refusing.{loaded_call}
use Rattle.klp_patch.specs.Calls.{are_some}
use Rattle.klp_patch.proofs.LoopLemmas.{left_from, next_left, none_left}
use Rattle.klp_patch.proofs.SomeLemmas.{some-first, some-behind}
use Rattle.klp_patch.proofs.patch_callbacks.has_callbacks.Goals as goal

pub loop-place-init : goal.loop-place-init
loop-place-init g c = refl

pub returns-then-has_callback_where_loaded : goal.returns-then-has_callback_where_loaded
returns-then-has_callback_where_loaded g c =
    let objects = objects_at c.args.catalog.now c.args.patch in
    let loaded = is_loaded_in c.args.modules.now in
    let next = next_left loaded c.args.patch c.args.which objects c.loop-place.place (omega (arith, c.loop-place-test.true, c.target_len-place-end.ensures.count)) in
    some-first (loaded_call c.args.catalog.now c.args.modules.now c.args.patch c.args.which c.loop-place.place)
    (left_from loaded c.args.patch c.args.which (c.loop-place.place + 1) objects)
    (sym c.has_callback_where_loaded.ensures ∙ c.if-has_callback_where_loaded.true)
    ∙ sym (ap are_some next) ∙ c.loop-place.invariant

pub loop-place-preserved : goal.loop-place-preserved
loop-place-preserved g c =
    let objects = objects_at c.args.catalog.now c.args.patch in
    let loaded = is_loaded_in c.args.modules.now in
    let next = next_left loaded c.args.patch c.args.which objects c.loop-place.place (omega (arith, c.loop-place-test.true, c.target_len-place-end.ensures.count)) in
    sym (some-behind (loaded_call c.args.catalog.now c.args.modules.now c.args.patch c.args.which c.loop-place.place)
    (left_from loaded c.args.patch c.args.which (c.loop-place.place + 1) objects)
    (sym c.has_callback_where_loaded.ensures ∙ c.if-has_callback_where_loaded.false))
    ∙ sym (ap are_some next) ∙ c.loop-place.invariant

pub returns : goal.returns
returns g c =
    let objects = objects_at c.args.catalog.now c.args.patch in
    let loaded = is_loaded_in c.args.modules.now in
    sym (ap are_some (none_left loaded c.args.patch c.args.which objects c.loop-place.place (omega (arith, c.loop-place-test.false, c.target_len-place-end.ensures.count))))
    ∙ c.loop-place.invariant
