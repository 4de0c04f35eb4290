-- What was found so far is added.
use Rattle.klp_lint_findings.specs.Saying.{Adds}
use Rattle.klp_lint_alone.specs.Judged.{IsPartOf}
use Rattle.klp_lint_alone.proofs.idle.find_idle_edits.Given as goal

abbrev pub invariant-loop-edit : goal.invariant-loop-edit
invariant-loop-edit l = Adds (IsPartOf l.fn.patch) l.fn.found l.found
