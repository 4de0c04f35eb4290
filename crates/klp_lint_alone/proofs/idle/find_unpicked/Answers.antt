use Rattle.klp_lint_findings.proofs.SayLemmas.{adds_still, adds_on}
use Rattle.klp_lint_findings.proofs.ClaimLemmas.{adds_some}
use Rattle.klp_lint_alone.proofs.idle.find_unpicked.Goals as goal

pub loop-place-init : goal.loop-place-init
loop-place-init c = adds_still c.args.found.now

pub loop-function-preserved : goal.loop-function-preserved
loop-function-preserved c =
    adds_on c.loop-function.invariant
    (adds_on (adds_some c.no_symbol.result c.no_symbol.ensures c.in_ok-add_some.ensures)
    (adds_some c.no_function.result c.no_function.ensures c.in_ok-add_some-2.ensures))

pub returns-in_default : goal.returns-in_default
returns-in_default c = adds_still c.args.found.now
