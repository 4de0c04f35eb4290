use Rattle.klp_lint_findings.proofs.SayLemmas.{adds_still, adds_on}
use Rattle.klp_lint_findings.proofs.ClaimLemmas.{adds_some}
use Rattle.klp_lint_together.proofs.together.find_for.Goals as goal

pub loop-below-init : goal.loop-below-init
loop-below-init g c = adds_still c.args.found.now

pub loop-below-preserved : goal.loop-below-preserved
loop-below-preserved g c = adds_on c.loop-below.invariant (adds_some c.over_one.result c.over_one.ensures c.in_ok-add_some.ensures)
