use Rattle.std.proofs.Common.{ap, ◌∙◌}
use Rattle.klp_catalog.specs.States.{installed_before}
use Rattle.klp_catalog.specs.Stored.{newest_naming}
use Rattle.klp_catalog.specs.Assembled.{lent_scripts, lent_counts}
use Rattle.klp_catalog.proofs.CatalogLemmas.{newest-same}
use Rattle.klp_catalog.proofs.catalog.Catalog.previous_state.Goals as goal

pub returns : goal.returns
returns g c =
    rw (← c.self.view_is)
    (c.previous_state.ensures ∙ ap (λ stored. newest_naming stored c.args.id (installed_before c.args.patch c.args.installed.now)) c.deref.ensures.value
    ∙ newest-same c.self.inside.over.value.names c.self.inside.patches.items (lent_scripts c.self.inside.callbacks.items) (lent_counts c.self.inside.callbacks.items) c.args.id (installed_before c.args.patch c.args.installed.now))
