-- What was found so far is true.
use Rattle.klp_lint_findings.specs.Claims.{AddsTrue}
use Rattle.klp_lint_findings.specs.Standing.{standing}
use Rattle.klp_lint_together.proofs.together.find_over_pair.Given as goal

abbrev pub invariant-loop-patch : goal.invariant-loop-patch
invariant-loop-patch g l = AddsTrue (standing l.fn.manager) l.fn.found l.found
