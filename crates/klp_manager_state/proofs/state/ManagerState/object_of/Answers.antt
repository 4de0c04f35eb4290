use Rattle.std.proofs.Common.{sym, ap, ◌∙◌}
use Rattle.std.specs.Prelude.{option_map}
use Rattle.klp_model.specs.Frames.{object_of_version}
use Rattle.klp_modules.specs.Names.{ModuleTable, Named, symbol_at_site}
use Rattle.klp_manager_state.specs.Managed.{setting_in}
use Rattle.klp_manager_state.proofs.InsideLemmas.{site_lies_in, function_lies_in}
use Rattle.klp_manager_state.proofs.state.ManagerState.object_of.Goals as goal

pub returns-in-Original : goal.returns-in-Original
returns-in-Original g c =
    c.object_of_site.ensures
    ∙ ap (λ (m : ModuleTable). option_map (λ (s : Named). s.object) (symbol_at_site m.names c.in-Original.site)) c.requires.modules_are
    ∙ site_lies_in c.args.self.now.sites.image.objects c.in-Original.site
    ∙ sym (ap (object_of_version (setting_in c.args.self.now c.args.catalog.now)) c.in-Original.is)

pub returns-in-New : goal.returns-in-New
returns-in-New g c =
    c.object_of_function.ensures
    ∙ function_lies_in c.args.catalog.now c.in-New.patch c.in-New.function
    ∙ sym (ap (object_of_version (setting_in c.args.self.now c.args.catalog.now)) c.in-New.is)
