use Rattle.std.proofs.Common.{bytes_eq, ◌∙◌, rules, tests}
use Rattle.std.proofs.lemmas.Iterator.{YieldsList-from_slice}
use Rattle.std.proofs.lemmas.Iterator.Search.{position_from_yields_List}
use Rattle.klp_types.specs.Image.{Object}
use Rattle.klp_catalog_text.proofs.ListLemmas.{position-map}
use Rattle.klp_catalog_text.proofs.draft.object_number.Goals as goal

pub returns : goal.returns
returns c =
    position_from_yields_List (λ (o : Object). bytes_eq c.args.name.now o.name) _ _ _ c.position.ensures.ran (YieldsList-from_slice c.args.objects.now cc) (λ x b q k. search (rules, tests))
    ∙ position-map (bytes_eq c.args.name.now) (λ (o : Object). o.name) c.args.objects.now
