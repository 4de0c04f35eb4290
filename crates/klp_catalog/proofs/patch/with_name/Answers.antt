use Rattle.std.proofs.Common.{bytes_eq, ◌∙◌, rules, tests}
use Rattle.std.proofs.lemmas.Iterator.{YieldsList-from_slice}
use Rattle.std.proofs.lemmas.Iterator.Search.{position_from_yields_List}
use Rattle.klp_catalog_text.proofs.ListLemmas.{position-map}
use Rattle.klp_catalog.specs.Stored.{StoredPatch}
use Rattle.klp_catalog.proofs.patch.with_name.Goals as goal

pub returns : goal.returns
returns c =
    position_from_yields_List (λ (p : StoredPatch). bytes_eq c.args.name.now p.name) _ _ _ c.position.ensures.ran (YieldsList-from_slice c.args.patches.now cc) (λ x b q k. search (rules, tests))
    ∙ position-map (bytes_eq c.args.name.now) (λ (p : StoredPatch). p.name) c.args.patches.now
