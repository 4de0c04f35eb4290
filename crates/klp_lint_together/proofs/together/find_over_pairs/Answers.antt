use Rattle.klp_lint_findings.specs.Standing.{standing}
use Rattle.klp_lint_findings.proofs.SayLemmas.{adds_still}
use Rattle.klp_lint_findings.proofs.ClaimLemmas.{adds_true_on}
use Rattle.klp_lint_together.proofs.KeptLemmas.{kept_still, kept_on, adds_before}
use Rattle.klp_lint_together.proofs.together.find_over_pairs.Goals as goal

pub loop-first-init : goal.loop-first-init
loop-first-init g c = record { adds = adds_still c.args.found.now; kept = kept_still c.args.manager.now }

pub loop-second-preserved : goal.loop-second-preserved
loop-second-preserved g c =
    let before = c.loop-second.invariant.kept in
    record {
      adds = adds_true_on (standing c.args.manager.now) c.loop-second.invariant.adds (adds_before before c.in_ok-find_over_pair.ensures.adds);
      kept = kept_on before c.in_ok-find_over_pair.ensures.kept;
    }
