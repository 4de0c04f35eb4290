use Rattle.std.proofs.Common.{rules, ℕ, ◌≤◌, List, length, sym, subst, arith}
use Rattle.std.specs.List.{All, count_by}
use Rattle.klp_types.specs.declared.limits.TheConstants.{MAX_PATCHES}
use Rattle.klp_catalog.specs.States.{is_cumulative}
use Rattle.std.specs.Prelude.{◌<◌}
use Rattle.klp_model.specs.State.{installed_patches}
use Rattle.klp_manager_state.specs.Managed.{setting_in, state_in}
use Rattle.klp_patch_events.proofs.ModuleSteps.{known_few}
use Rattle.klp_patch_events.proofs.FitLemmas.{state_fits}
use Rattle.klp_patch_events.proofs.module.installed_patches.Goals as goal

pub returns-clause-numbers : goal.returns-clause-numbers
returns-clause-numbers g c =
    subst (All (λ p. p < MAX_PATCHES)) (sym c.installed_list.ensures.value)
    (known_few c.args.state.now.sites.image c.args.catalog.now (installed_patches (state_in c.args.state.now c.args.catalog.now)) (omega arith) c.requires.allowed.known)

pub returns-clause-replace : goal.returns-clause-replace
returns-clause-replace g c =
    subst (λ (ps : List ℕ). count_by (is_cumulative c.args.catalog.now) ps ≤ 2) (sym c.installed_list.ensures.value)
    (c.at_most_two_patches_replace.ensures (setting_in c.args.state.now c.args.catalog.now) (state_in c.args.state.now c.args.catalog.now) c.requires.allowed)

pub returns-clause-fit : goal.returns-clause-fit
returns-clause-fit g c =
    state_fits c.args.state.now c.args.catalog.now c.requires c.patches-patches.ensures.limits (omega (arith, c.sites-sites.ensures.value, c.sites-sites.ensures.image, c.requires.limits.few_sites))
    (subst (λ (ps : List ℕ). length ps ≤ MAX_PATCHES) c.installed_list.ensures.value (search rules))
