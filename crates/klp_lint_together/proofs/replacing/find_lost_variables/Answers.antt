use Rattle.klp_lint_findings.proofs.SayLemmas.{adds_still, adds_on}
use Rattle.klp_lint_findings.proofs.ClaimLemmas.{adds_some}
use Rattle.klp_lint_together.proofs.KeptLemmas.{kept_on, true_before}
use Rattle.klp_lint_together.proofs.replacing.find_lost_variables.Goals as goal

pub loop-key-init : goal.loop-key-init
loop-key-init g c = record { adds = adds_still c.args.found.now; kept = c.end_of.ensures }

pub loop-key-preserved : goal.loop-key-preserved
loop-key-preserved g c =
    let before = c.loop-key.invariant.kept in
    let claim = true_before c.args.found.now.linted c.variable_lost.result before c.variable_lost.ensures.claims in
    record {
      adds = adds_on c.loop-key.invariant.adds (adds_some c.variable_lost.result claim c.in_ok-add_some.ensures);
      kept = kept_on before c.variable_lost.ensures.kept;
    }

pub returns-clause-adds : goal.returns-clause-adds
returns-clause-adds g c =
    let claim = true_before c.args.found.now.linted c.not_again.result c.loop-key.invariant.kept c.not_again.ensures.claims in
    adds_on c.loop-key.invariant.adds (adds_some c.not_again.result claim c.in_ok-add_some-2.ensures)
