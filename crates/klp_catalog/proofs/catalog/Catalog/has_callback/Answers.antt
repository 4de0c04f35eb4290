use Rattle.std.proofs.Common.{ap, ◌∙◌}
use Rattle.std.specs.Prelude.{is_some}
use Rattle.klp_catalog.specs.Stored.{number_of}
use Rattle.klp_catalog.proofs.RunLemmas.{is_there}
use Rattle.klp_catalog.proofs.catalog.Catalog.has_callback.Goals as goal

pub returns : goal.returns
returns g c =
    c.is_some.ensures
    ∙ ap is_some (c.number_of.ensures ∙ (λ i. number_of (c.deref.ensures.value i) c.args.patch (c.from.ensures i) c.args.which))
    ∙ is_there c.self.inside.patches.items c.self.inside.callbacks.items c.args.self.now c.self.view_is c.self.invariant c.args.patch c.args.place c.args.which
