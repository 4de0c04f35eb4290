use Rattle.std.proofs.Common.{length, ap, arith}
use Rattle.klp_catalog.specs.Stored.{StoredPatch}
use Rattle.klp_catalog.proofs.PatchLemmas.{kept_count}
use Rattle.klp_catalog.proofs.catalog.Catalog.target_len.Goals as goal

pub overflow_cast-result : goal.overflow_cast-result
overflow_cast-result g c =
    let kept = ap (λ (p : StoredPatch). length p.targets) c.found.view_is in
    omega (arith, c.len.ensures, kept, kept_count c.args.self.now c.args.patch c.in-Some.found.now c.in-Some.ensures.found, c.in-Some.ensures.keeps.few_objects)

pub returns-in-Some-clause-count : goal.returns-in-Some-clause-count
returns-in-Some-clause-count g c =
    let kept = ap (λ (p : StoredPatch). length p.targets) c.found.view_is in
    omega (arith, c.len.ensures, kept, kept_count c.args.self.now c.args.patch c.in-Some.found.now c.in-Some.ensures.found)
