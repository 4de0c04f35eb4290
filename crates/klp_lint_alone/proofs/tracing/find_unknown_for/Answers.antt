use Rattle.klp_lint_findings.proofs.SayLemmas.{adds_still, adds_on}
use Rattle.klp_lint_findings.proofs.ClaimLemmas.{adds_some}
use Rattle.klp_lint_alone.proofs.tracing.find_unknown_for.Goals as goal

pub loop-which-init : goal.loop-which-init
loop-which-init c = adds_still c.args.found.now

pub loop-which-preserved : goal.loop-which-preserved
loop-which-preserved c = adds_on c.loop-which.invariant (adds_some c.not_understood.result c.not_understood.ensures c.in_ok-add_some.ensures)
