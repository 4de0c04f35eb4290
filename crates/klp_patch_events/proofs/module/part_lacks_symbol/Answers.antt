use Rattle.std.proofs.Common.{ap, ◌∙◌}
use Rattle.std.specs.List.{list_any}
use Rattle.klp_model.specs.ModuleCalls.{Part}
use Rattle.klp_model.specs.Refusals.{lacks_symbol_of}
use Rattle.klp_patch.specs.ModuleParts.{parts_in}
use Rattle.klp_patch_events.proofs.ModuleLooks.{lacks_in}
use Rattle.klp_patch_events.proofs.module.part_lacks_symbol.Goals as goal

pub returns : goal.returns
returns g c =
    c.some_lacks_symbol.ensures
    ∙ lacks_in c.args.catalog.now c.args.object c.installed.result.now
    ∙ ap (λ ps. list_any (λ (p : Part). lacks_symbol_of p.1.1) (parts_in c.args.catalog.now c.args.object ps)) c.installed.ensures.value
