-- What was found so far is added.
use Rattle.klp_lint_findings.specs.Saying.{Adds}
use Rattle.klp_lint_alone.specs.Judged.{IsPartOf}
use Rattle.klp_lint_alone.proofs.idle.find_idle.Given as goal

abbrev pub invariant-loop-place : goal.invariant-loop-place
invariant-loop-place l = Adds (IsPartOf l.fn.patch) l.fn.found l.found

abbrev pub invariant-loop-callback : goal.invariant-loop-callback
invariant-loop-callback l = Adds (IsPartOf l.fn.patch) l.fn.found l.found
