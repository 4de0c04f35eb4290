use Rattle.klp_lint_findings.specs.Standing.{standing}
use Rattle.klp_lint_findings.proofs.SayLemmas.{adds_still, adds_on, adds_as}
use Rattle.klp_lint_findings.proofs.ClaimLemmas.{adds_some, adds_true_on}
use Rattle.klp_lint_alone.proofs.AloneLemmas.{unknown_is_true, guessed_is_true}
use Rattle.klp_lint_alone.proofs.tracing.find_unknown.Goals as goal

pub loop-place-init : goal.loop-place-init
loop-place-init g c =
    let linted = c.args.found.now.linted in
    let here = standing c.args.manager.now in
    adds_on
    (adds_as (unknown_is_true linted here c.args.patch) (adds_some c.maybe_cumulative.result c.maybe_cumulative.ensures c.in_ok-add_some.ensures))
    (adds_as (guessed_is_true linted here c.args.patch) (adds_some c.maybe_cumulative-2.result c.maybe_cumulative-2.ensures c.in_ok-add_some-2.ensures))

pub loop-place-preserved : goal.loop-place-preserved
loop-place-preserved g c = adds_true_on (standing c.args.manager.now) c.loop-place.invariant c.in_ok-find_unknown_at.ensures

pub returns-in_default : goal.returns-in_default
returns-in_default g c = adds_still c.args.found.now
