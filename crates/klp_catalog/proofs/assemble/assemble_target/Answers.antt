use Rattle.std.proofs.Common.{length, ap, sym, ◌∙◌, arith}
use Rattle.std.proofs.lemmas.List.{length-map}
use Rattle.klp_types.specs.Setting.{Callback}
use Rattle.smallvec.specs.SmallVec.{SmallVec}
use Rattle.klp_catalog_text.specs.Plan.{PlanFunction}
use Rattle.klp_catalog.proofs.assemble.assemble_target.Goals as goal

pub invariant_of-result : goal.invariant_of-result
invariant_of-result c = (
  omega (
    arith,
    ap length c.in_ok-kinds.ensures,
    length-map c.deref.result.now (λ (k : Callback). k.which),
    ap length c.deref.ensures.value,
    c.len.ensures,
    c.in_ok-first.ensures.fits,
  ),
  c.len-count.ensures.value ∙ ap (λ (v : SmallVec PlanFunction). length v.items) (sym c.of-planned.ensures),
)
