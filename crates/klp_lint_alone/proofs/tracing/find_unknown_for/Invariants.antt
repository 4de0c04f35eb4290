-- What was found so far is added.
use Rattle.klp_lint_findings.specs.Saying.{Adds}
use Rattle.klp_lint_alone.specs.Judged.{IsNotUnderstood}
use Rattle.klp_lint_alone.proofs.tracing.find_unknown_for.Given as goal

abbrev pub invariant-loop-which : goal.invariant-loop-which
invariant-loop-which l = Adds (IsNotUnderstood l.fn.found.linted l.fn.patch l.fn.place) l.fn.found l.found
