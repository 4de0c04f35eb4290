use Rattle.klp_lint_findings.specs.Standing.{standing}
use Rattle.klp_lint_findings.proofs.SayLemmas.{adds_still}
use Rattle.klp_lint_findings.proofs.ClaimLemmas.{adds_true_on}
use Rattle.klp_lint_together.proofs.KeptLemmas.{kept_still, kept_on, adds_before}
use Rattle.klp_lint_together.proofs.together.find_over_ones.Goals as goal

pub loop-patch-init : goal.loop-patch-init
loop-patch-init g c = record { adds = adds_still c.args.found.now; kept = kept_still c.args.manager.now }

pub loop-patch-preserved : goal.loop-patch-preserved
loop-patch-preserved g c =
    let before = c.loop-patch.invariant.kept in
    record {
      adds = adds_true_on (standing c.args.manager.now) c.loop-patch.invariant.adds (adds_before before
          (adds_true_on (standing c.loop-patch.manager) c.in_ok-find_for.ensures (adds_true_on (standing c.loop-patch.manager) c.in_ok-find_same_functions.ensures c.in_ok-find_replacing.ensures.adds)));
      kept = kept_on before c.in_ok-find_replacing.ensures.kept;
    }
