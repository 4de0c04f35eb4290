use Rattle.std.proofs.Common.{map, slice_get, option_map, Some, sym, ap, ◌∙◌}
use Rattle.std.proofs.lemmas.Option.{slice_get-map}
use Rattle.klp_catalog_text.specs.Draft.{patch_names_of}
use Rattle.klp_catalog.specs.Assembled.{lent_scripts}
use Rattle.klp_catalog.specs.Catalog.{Catalog}
use Rattle.klp_catalog.specs.Stored.{StoredPatch}
use Rattle.klp_catalog.proofs.CatalogLemmas.{stored_names}
use Rattle.klp_catalog.proofs.RunLemmas.{seen_here}
use Rattle.klp_catalog.proofs.catalog.Catalog.patch_name.Goals as goal

pub returns : goal.returns
returns g c =
    let name = λ (p : StoredPatch). p.name in
    let here = seen_here c.deref.result.now c.from.result c.args.patch c.in_ok-found.found.now (c.from.ensures ∙ c.patch.view_is) c.in_ok-found.ensures.lookup.3.0 c.in_ok-found.ensures.lookup.1 in
    ap Some (c.as_str.ensures.value ∙ ap name c.found.view_is)
    ∙ sym (slice_get-map name c.deref.result.now c.args.patch ∙ ap (option_map name) here)
    ∙ (λ i. slice_get (map name (c.deref.ensures.value i)) c.args.patch)
    ∙ ap (λ names. slice_get names c.args.patch) (stored_names (lent_scripts c.self.inside.callbacks.items) c.self.inside.patches.items ∙ ap (λ (k : Catalog). patch_names_of k.patches) c.self.view_is)
