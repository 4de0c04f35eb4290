use Rattle.klp_lint_findings.proofs.SayLemmas.{adds_still, adds_on}
use Rattle.klp_lint_findings.proofs.ClaimLemmas.{adds_some}
use Rattle.klp_lint_alone.proofs.idle.find_idle_edits.Goals as goal

pub loop-edit-init : goal.loop-edit-init
loop-edit-init c = adds_still c.args.found.now

pub loop-edit-preserved : goal.loop-edit-preserved
loop-edit-preserved c = adds_on c.loop-edit.invariant (adds_some c.idle_at.result c.idle_at.ensures c.in_ok-add_some.ensures)

pub returns-in_default : goal.returns-in_default
returns-in_default c = adds_still c.args.found.now
