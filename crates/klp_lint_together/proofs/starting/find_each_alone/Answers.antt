use Rattle.std.proofs.Common.{ℕ, subst, arith, below_more}
use Rattle.klp_manager_state.specs.Managed.{setting_of}
use Rattle.klp_lint_together.specs.Starting.{StartsUnlessReported}
use Rattle.klp_lint_findings.specs.Standing.{standing}
use Rattle.klp_lint_findings.proofs.SayLemmas.{adds_still}
use Rattle.klp_lint_findings.proofs.ClaimLemmas.{adds_true_on}
use Rattle.klp_lint_together.proofs.KeptLemmas.{kept_still, kept_on, adds_before}
use Rattle.klp_lint_together.proofs.StartLemmas.{starts_on, starts_before}
use Rattle.klp_lint_together.proofs.starting.find_each_alone.Goals as goal

pub loop-number-init : goal.loop-number-init
loop-number-init g c = record {
  starts = λ few patch below. absurd (omega (arith, below));
  adds = adds_still c.args.found.now;
  kept = kept_still c.args.manager.now;
}

pub loop-number-preserved : goal.loop-number-preserved
loop-number-preserved g c =
    let start = c.args.manager.now in
    let setting = setting_of start.managed in
    let after = c.find_alone.new.found in
    record {
      starts = λ few.
          below_more (λ (p : ℕ). StartsUnlessReported setting start.managed.state p after) c.loop-number.number
          (λ p below. starts_on setting start.managed.state p c.loop-number.found after c.in_ok-find_alone.ensures.adds.grows.kept
          (c.loop-number.invariant.starts few p below))
          (subst (λ (p : ℕ). StartsUnlessReported setting start.managed.state p after)
          (c.patch_id.ensures (omega (arith, c.loop-number-test.true, few)))
          (starts_before start c.loop-number.manager c.patch_id.result after c.loop-number.invariant.kept c.in_ok-find_alone.ensures.starts));
      adds = adds_true_on (standing c.args.manager.now) c.loop-number.invariant.adds (adds_before c.loop-number.invariant.kept c.in_ok-find_alone.ensures.adds);
      kept = kept_on c.loop-number.invariant.kept c.in_ok-find_alone.ensures.kept;
    }
