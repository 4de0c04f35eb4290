use Rattle.klp_lint_findings.proofs.SayLemmas.{adds_still, adds_on}
use Rattle.klp_lint_findings.proofs.ClaimLemmas.{adds_some}
use Rattle.klp_lint_together.proofs.replacing.find_lost_functions.Goals as goal

pub loop-place-init : goal.loop-place-init
loop-place-init g c = adds_still c.args.found.now

pub loop-place-preserved : goal.loop-place-preserved
loop-place-preserved g c = adds_on c.loop-place.invariant (adds_some c.functions_lost.result c.functions_lost.ensures c.in_ok-add_some.ensures)

pub returns-in_default : goal.returns-in_default
returns-in_default g c = adds_still c.args.found.now
