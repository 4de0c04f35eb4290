-- What was found so far is true.
use Rattle.klp_lint_findings.specs.Claims.{AddsTrue}
use Rattle.klp_lint_findings.specs.Standing.{standing}
use Rattle.klp_lint_together.proofs.together.find_for.Given as goal

abbrev pub invariant-loop-below : goal.invariant-loop-below
invariant-loop-below g l = AddsTrue (standing l.fn.manager) l.fn.found l.found
