use Rattle.std.proofs.Common.{◌+◌, drop, sym, ap, ◌∙◌, refl, arith}
use Rattle.std.specs.List.{flat_map}
use Rattle.klp_model.specs.EventCalls.{coming_may_run}
use Rattle.klp_patch.specs.ModuleParts.{parts_at, parts_in}
use Rattle.klp_patch.specs.Calls.{are_some}
use Rattle.klp_patch.proofs.CallLemmas.{drop_past}
use Rattle.klp_patch.proofs.ModulePartsLemmas.{may_run-next}
use Rattle.klp_patch.proofs.SomeLemmas.{some-first, some-behind}
use Rattle.klp_patch.proofs.module_callbacks.may_run_coming.Goals as goal

pub loop-patch-init : goal.loop-patch-init
loop-patch-init g c = refl

pub returns-then-has_coming_callback : goal.returns-then-has_coming_callback
returns-then-has_coming_callback g c =
    let f = coming_may_run c.args.moving in
    let next = may_run-next f c.args.catalog.now c.args.object c.args.installed.now c.loop-patch.patch-index c.patch-item.result c.loop-patch-test.true c.patch-item.is in
    some-first (flat_map f (parts_at c.args.catalog.now c.args.object c.patch-item.result))
    (flat_map f (parts_in c.args.catalog.now c.args.object (drop (c.loop-patch.patch-index + 1) c.args.installed.now)))
    (sym c.has_coming_callback.ensures ∙ c.if-has_coming_callback.true)
    ∙ sym (ap are_some next) ∙ c.loop-patch.invariant

pub loop-patch-preserved : goal.loop-patch-preserved
loop-patch-preserved g c =
    let f = coming_may_run c.args.moving in
    let next = may_run-next f c.args.catalog.now c.args.object c.args.installed.now c.loop-patch.patch-index c.patch-item.result c.loop-patch-test.true c.patch-item.is in
    sym (some-behind (flat_map f (parts_at c.args.catalog.now c.args.object c.patch-item.result))
    (flat_map f (parts_in c.args.catalog.now c.args.object (drop (c.loop-patch.patch-index + 1) c.args.installed.now)))
    (sym c.has_coming_callback.ensures ∙ c.if-has_coming_callback.false))
    ∙ sym (ap are_some next) ∙ c.loop-patch.invariant

pub returns : goal.returns
returns g c =
    sym (ap (λ patches. are_some (flat_map (coming_may_run c.args.moving) (parts_in c.args.catalog.now c.args.object patches)))
    (drop_past c.args.installed.now c.loop-patch.patch-index (omega (arith, c.loop-patch-test.false))))
    ∙ c.loop-patch.invariant
