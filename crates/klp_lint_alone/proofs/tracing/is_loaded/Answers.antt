use Rattle.std.proofs.Common.{false, ap, ◌∙◌}
use Rattle.std.specs.Prelude.{slice_index_or}
use Rattle.klp_catalog_text.specs.Plan.{PlanTarget}
use Rattle.klp_model.specs.State.{is_loaded}
use Rattle.klp_modules.specs.Names.{ModuleTable}
use Rattle.klp_lint_alone.proofs.tracing.is_loaded.Goals as goal

pub returns : goal.returns
returns g c =
    c.is_loaded.ensures ∙ ap (λ (m : ModuleTable). slice_index_or m.loaded c.target.inside.object false) c.modules.ensures
    ∙ ap (λ (t : PlanTarget). is_loaded c.args.manager.now.managed.state t.object) c.target.view_is
