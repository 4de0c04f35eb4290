-- None of the functions so far is for the site.
use Rattle.std.proofs.Common.{◌≡◌, ℕ, ◌<◌, false}
use Rattle.klp_types.specs.Setting.{functions_of, is_at}
use Rattle.klp_manager_state.specs.Managed.{setting_of}
use Rattle.klp_lint_changes.proofs.SiteLemmas.{site_numbered}
use Rattle.klp_lint_changes.proofs.sites.changes_site.Given as goal

abbrev pub invariant-loop-number : goal.invariant-loop-number
invariant-loop-number g l =
    (number : ℕ) → number < l.number
    → is_at (site_numbered (functions_of (setting_of l.fn.manager.managed) l.fn.patch) number) l.fn.site ≡ false
