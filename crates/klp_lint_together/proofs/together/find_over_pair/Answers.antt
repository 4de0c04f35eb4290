use Rattle.klp_lint_findings.proofs.SayLemmas.{adds_still, adds_on}
use Rattle.klp_lint_findings.proofs.ClaimLemmas.{adds_some}
use Rattle.klp_lint_together.proofs.KeptLemmas.{true_before}
use Rattle.klp_lint_together.proofs.together.find_over_pair.Goals as goal

pub loop-patch-init : goal.loop-patch-init
loop-patch-init g c = adds_still c.args.found.now

pub loop-patch-preserved : goal.loop-patch-preserved
loop-patch-preserved g c =
    let claim = true_before c.args.found.now.linted c.over_pair.result c.in_ok-row.ensures c.over_pair.ensures in
    adds_on c.loop-patch.invariant (adds_some c.over_pair.result claim c.in_ok-add_some.ensures)
