use Rattle.klp_lint_findings.specs.Standing.{standing}
use Rattle.klp_lint_findings.proofs.SayLemmas.{adds_still, adds_on}
use Rattle.klp_lint_findings.proofs.ClaimLemmas.{adds_some, adds_true_on}
use Rattle.klp_lint_together.proofs.KeptLemmas.{kept_still, kept_on, true_before, adds_before}
use Rattle.klp_lint_together.proofs.replacing.find_lost.Goals as goal

pub loop-state-init : goal.loop-state-init
loop-state-init g c = record { adds = adds_still c.args.found.now; kept = kept_still c.args.manager.now }

pub loop-state-preserved : goal.loop-state-preserved
loop-state-preserved g c =
    let before = c.loop-state.invariant.kept in
    let claim = true_before c.args.found.now.linted c.state_lost.result before c.state_lost.ensures.claims in
    record {
      adds = adds_on c.loop-state.invariant.adds (adds_some c.state_lost.result claim c.in_ok-add_some.ensures);
      kept = kept_on before c.state_lost.ensures.kept;
    }

pub returns-clause-adds : goal.returns-clause-adds
returns-clause-adds g c =
    let before = c.loop-state.invariant.kept in
    adds_true_on (standing c.args.manager.now) c.loop-state.invariant.adds
    (adds_true_on (standing c.args.manager.now) (adds_before before c.in_ok-find_lost_functions.ensures) (adds_before before c.in_ok-find_lost_variables.ensures.adds))

pub returns-in_default-clause-adds : goal.returns-in_default-clause-adds
returns-in_default-clause-adds g c = adds_still c.args.found.now
