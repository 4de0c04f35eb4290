use Rattle.std.proofs.Common.{ap, ◌∙◌, arith}
use Rattle.std.specs.Prelude.{slice_get}
use Rattle.klp_catalog.proofs.CatalogLemmas.{symbols-at}
use Rattle.klp_catalog.proofs.catalog.Catalog.symbols.Goals as goal

pub returns : goal.returns
returns g c =
    rw (← c.self.view_is, ← c.object.view_is)
    (c.count_at.ensures ∙ ap (λ counts. slice_get counts c.object.inside.0) c.deref.ensures.value
    ∙ symbols-at c.self.inside.symbols.items c.self.inside.over.value.names c.object.inside.0 c.self.invariant.sizes (omega arith))
