-- What was found so far is true.
use Rattle.klp_lint_findings.specs.Claims.{IsTrue}
use Rattle.klp_lint_findings.specs.Saying.{Adds}
use Rattle.klp_lint_findings.specs.Standing.{standing}
use Rattle.klp_lint_together.proofs.hiding.Compared.find.Given as goal

abbrev pub invariant-loop-number : goal.invariant-loop-number
invariant-loop-number g l = Adds (IsTrue l.fn.self.linted (standing l.fn.self.manager.now)) l.fn.found l.found
