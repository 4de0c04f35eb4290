use Rattle.std.proofs.Common.{Some, ◌+◌, ◌-◌, ◌∙◌, drop, slice_get, sym, ap, arith}
use Rattle.klp_catalog_text.specs.Plan.{Plan, PlanTarget}
use Rattle.klp_types.specs.Setting.{Callback as PlanCallback}
use Rattle.klp_catalog_text.specs.Scripts.{scripts_of}
use Rattle.klp_catalog_text.proofs.ScriptLemmas.{found, passed}
use Rattle.klp_catalog_text.proofs.plan.Plan.script.Goals as goal

pub returns-in-Some : goal.returns-in-Some
returns-in-Some c =
    let its = ap (λ (t : PlanTarget). t.callbacks) c.target.view_is in
    let callbacks = c.deref.ensures.value ∙ its in
    let rest = scripts_of (drop (c.loop-patch.patch-index + 1) c.deref-patch-items.result.now) in
    let same = c.deref-patch-items.ensures.value ∙ ap (λ (p : Plan). p.patches) c.self.view_is in
    let here = found c.deref-target-items.result.now c.loop-target.target-index c.target-item.result c.deref.result.now rest c.loop-target.left c.loop-target-test.true c.target-item.is callbacks
    c.in-Some.callback.now (c.in-Some.ensures.lookup.3.0) c.in-Some.ensures.lookup.1 in
    ap (λ (x : PlanCallback). Some x.script) c.callback.view_is ∙ sym here ∙ sym c.loop-target.invariant ∙ ap (λ patches. slice_get (scripts_of patches) c.args.number) same

pub loop-target-preserved : goal.loop-target-preserved
loop-target-preserved c =
    let its = ap (λ (t : PlanTarget). t.callbacks) c.target.view_is in
    let callbacks = c.deref.ensures.value ∙ its in
    let rest = scripts_of (drop (c.loop-patch.patch-index + 1) c.deref-patch-items.result.now) in
    c.loop-target.invariant
    ∙ passed c.deref-target-items.result.now c.loop-target.target-index c.target-item.result c.deref.result.now rest c.loop-target.left c.loop-target-test.true c.target-item.is callbacks
    (c.loop-target.left - c.len-left.result) (omega (arith, c.deref.ensures.len, c.len-left.ensures, c.in_default.ensures.lookup.3))
