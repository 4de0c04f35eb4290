use Rattle.klp_lint_findings.proofs.SayLemmas.{adds_still, adds_on}
use Rattle.klp_lint_findings.proofs.ClaimLemmas.{adds_some}
use Rattle.klp_lint_together.proofs.hiding.Compared.find.Goals as goal

pub loop-number-init : goal.loop-number-init
loop-number-init g c = adds_still c.args.found.now

pub loop-number-preserved : goal.loop-number-preserved
loop-number-preserved g c = adds_on c.loop-number.invariant (adds_some c.same.result c.same.ensures c.in_ok-add_some.ensures)
