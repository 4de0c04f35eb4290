use Rattle.klp_lint_findings.proofs.SayLemmas.{adds_still, adds_on}
use Rattle.klp_lint_together.proofs.hiding.find_same_functions.Goals as goal

pub loop-place-init : goal.loop-place-init
loop-place-init g c = adds_still c.args.found.now

pub loop-place-preserved : goal.loop-place-preserved
loop-place-preserved g c = adds_on c.loop-place.invariant c.in_ok-find.ensures
