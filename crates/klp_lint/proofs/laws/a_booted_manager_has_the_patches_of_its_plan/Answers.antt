use Rattle.std.proofs.Common.{map, ap, ◌∙◌}
use Rattle.klp_modules.specs.Names.{names_of}
use Rattle.klp_catalog.specs.Catalog.{setting_patch}
use Rattle.klp_lint.proofs.PlanLemmas.{same_patches}
use Rattle.klp_lint.proofs.laws.a_booted_manager_has_the_patches_of_its_plan.Goals as goal

pub returns : goal.returns
returns c managed patches names bare scripts =
    ap (λ n. map (setting_patch n) managed.catalog.patches) names
    ∙ ap (map (setting_patch (names_of managed.image.objects))) (same_patches managed.catalog.patches patches bare scripts)
