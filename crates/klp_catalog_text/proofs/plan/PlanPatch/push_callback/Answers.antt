use Rattle.std.proofs.Common.{◌-◌, length, ap, refl, arith}
use Rattle.klp_catalog_text.specs.Plan.{PlanPatch}
use Rattle.klp_catalog_text.specs.PlanParts.{with_callback}
use Rattle.klp_catalog_text.proofs.ListLemmas.{set_last, on_ok}
use Rattle.klp_catalog_text.proofs.plan.PlanPatch.push_callback.Goals as goal

pub returns-clause-ok : goal.returns-clause-ok
returns-clause-ok c =
    let same = ap (λ (p : PlanPatch). length p.targets) c.self.view_is in
    on_ok c.push_callback.result c.push_callback.ensures.ok
    (λ e. rw (set_last (with_callback c.args.callback) c.self.inside.targets.items (c.len-last.result - 1) c.index_mut.result.now _ (omega (arith, same)) c.index_mut.ensures.value e, ← c.self.view_is) refl)
