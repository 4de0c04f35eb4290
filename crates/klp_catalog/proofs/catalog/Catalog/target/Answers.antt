use Rattle.std.proofs.Common.{Some, slice_get, sym, ap, ◌∙◌}
use Rattle.klp_catalog.specs.Stored.{StoredTarget, StoredPatch}
use Rattle.klp_catalog.proofs.RunLemmas.{seen_here}
use Rattle.klp_catalog.proofs.PatchLemmas.{kept_object}
use Rattle.klp_catalog.proofs.catalog.Catalog.target.Goals as goal

pub returns : goal.returns
returns g c =
    let here =
    ap (λ (p : StoredPatch). slice_get p.targets c.args.number) (sym c.found.view_is) ∙ ap (λ ts. slice_get ts c.args.number) (sym c.deref.ensures)
    ∙ seen_here c.deref.result.now c.from.result c.args.number c.in_ok-target.target.now c.from.ensures c.in_ok-target.ensures.lookup.3.0 c.in_ok-target.ensures.lookup.1
    in
    ap (λ (t : StoredTarget). Some t.object) c.target.view_is
    ∙ sym (kept_object c.args.self.now c.args.patch c.args.number c.in_ok-found.found.now c.in_ok-target.target.now c.in_ok-found.ensures.found here)
