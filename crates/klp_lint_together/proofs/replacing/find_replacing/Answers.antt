use Rattle.klp_lint_findings.specs.declared.finding.Finding.TheVariants.{Replace}
use Rattle.klp_lint_findings.specs.declared.finding.ReplaceFinding.TheVariants.{TakesOut}
use Rattle.klp_lint_findings.specs.Standing.{standing}
use Rattle.klp_lint_findings.proofs.SayLemmas.{adds_it}
use Rattle.klp_lint_findings.proofs.ClaimLemmas.{adds_true_on, replace_true}
use Rattle.klp_lint_together.proofs.KeptLemmas.{kept_still, kept_on, adds_before}
use Rattle.klp_lint_together.proofs.replacing.find_replacing.Goals as goal

pub loop-other-init : goal.loop-other-init
loop-other-init g c = record {
  adds = adds_it (Replace c.args.patch (TakesOut c.patches_taken_out-gone.result))
      (replace_true c.args.found.now.linted (standing c.args.manager.now) c.args.patch (TakesOut c.patches_taken_out-gone.result) tt)
      c.in_ok-add.ensures.adds;
  kept = kept_still c.args.manager.now;
}

pub loop-other-preserved : goal.loop-other-preserved
loop-other-preserved g c =
    let before = c.loop-other.invariant.kept in
    record {
      adds = adds_true_on (standing c.args.manager.now) c.loop-other.invariant.adds (adds_before before c.in_ok-find_lost.ensures.adds);
      kept = kept_on before c.in_ok-find_lost.ensures.kept;
    }
