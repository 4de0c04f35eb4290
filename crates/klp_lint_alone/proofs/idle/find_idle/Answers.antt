use Rattle.klp_lint_findings.proofs.SayLemmas.{adds_still, adds_on}
use Rattle.klp_lint_alone.proofs.idle.find_idle.Goals as goal

pub loop-place-init : goal.loop-place-init
loop-place-init c = adds_still c.args.found.now

pub loop-callback-preserved : goal.loop-callback-preserved
loop-callback-preserved c = adds_on c.loop-callback.invariant c.in_ok-find_idle_edits.ensures

pub returns-in_default : goal.returns-in_default
returns-in_default c = adds_still c.args.found.now
