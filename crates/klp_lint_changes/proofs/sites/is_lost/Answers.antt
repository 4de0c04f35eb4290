use Rattle.std.proofs.Common.{sym, ◌∙◌}
use Rattle.klp_lint_changes.proofs.SiteLemmas.{not_true}
use Rattle.klp_lint_changes.proofs.sites.is_lost.Goals as goal

pub returns-in-Some : goal.returns-in-Some
returns-in-Some g c = λ is. (c.in-Some.site, sym c.in-Some.ensures, sym c.changes_site.ensures ∙ not_true c.changes_site.result is)
