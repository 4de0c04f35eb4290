use Rattle.std.proofs.Common.{bytes_eq, map, position, ap, ◌∙◌}
use Rattle.klp_catalog_text.specs.Draft.{patch_names_of}
use Rattle.klp_catalog.specs.Assembled.{lent_scripts}
use Rattle.klp_catalog.specs.Catalog.{Catalog}
use Rattle.klp_catalog.specs.Stored.{StoredPatch}
use Rattle.klp_catalog.proofs.CatalogLemmas.{stored_names}
use Rattle.klp_catalog.proofs.catalog.Catalog.patch.Goals as goal

pub returns-in_err-number : goal.returns-in_err-number
returns-in_err-number g c =
    c.from_residual.ensures ∙ c.in_err-number.ensures
    ∙ (λ i. position (bytes_eq c.args.name.now) (map (λ (p : StoredPatch). p.name) (c.deref.ensures.value i)))
    ∙ ap (position (bytes_eq c.args.name.now)) (stored_names (lent_scripts c.self.inside.callbacks.items) c.self.inside.patches.items ∙ ap (λ (k : Catalog). patch_names_of k.patches) c.self.view_is)

pub returns : goal.returns
returns g c =
    c.in_ok-number.ensures
    ∙ (λ i. position (bytes_eq c.args.name.now) (map (λ (p : StoredPatch). p.name) (c.deref.ensures.value i)))
    ∙ ap (position (bytes_eq c.args.name.now)) (stored_names (lent_scripts c.self.inside.callbacks.items) c.self.inside.patches.items ∙ ap (λ (k : Catalog). patch_names_of k.patches) c.self.view_is)
