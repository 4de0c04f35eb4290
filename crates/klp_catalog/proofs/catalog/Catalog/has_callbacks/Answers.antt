use Rattle.std.proofs.Common.{◌∙◌, sym, ap}
use Rattle.std.specs.List.{list_any}
use Rattle.std.specs.Prelude.{not}
use Rattle.klp_types.specs.Entries.{is_empty}
use Rattle.klp_types.specs.Setting.{PatchObject}
use Rattle.klp_catalog.proofs.PatchLemmas.{kept_callbacks}
use Rattle.klp_catalog.proofs.catalog.Catalog.has_callbacks.Goals as goal

pub returns-in-Some : goal.returns-in-Some
returns-in-Some g c =
    c.has_callbacks.ensures ∙ kept_callbacks c.args.self.now c.args.patch c.in-Some.found.now c.in-Some.ensures.found

pub returns-in-None : goal.returns-in-None
returns-in-None g c = sym (ap (list_any (λ (o : PatchObject). not (is_empty o.callbacks))) c.in-None.ensures.found.objects)
