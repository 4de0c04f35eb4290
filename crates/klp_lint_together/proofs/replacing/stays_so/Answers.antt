use Rattle.std.proofs.Common.{ℕ, ◌≤◌, take, arith, below_more}
use Rattle.klp_lint_findings.specs.Claims.{IsThereBehind}
use Rattle.klp_lint_findings.specs.Standing.{standing}
use Rattle.klp_lint_together.proofs.KeptLemmas.{kept_still, kept_on}
use Rattle.klp_lint_together.proofs.BehindLemmas.{there_before}
use Rattle.klp_lint_together.proofs.replacing.stays_so.Goals as goal

pub loop-count-init : goal.loop-count-init
loop-count-init g c = record {
  so = λ count below few. absurd (omega (arith, below, few));
  kept = kept_still c.args.manager.now;
}

pub loop-count-preserved : goal.loop-count-preserved
loop-count-preserved g c = record {
  so = below_more
      (λ (n : ℕ). 2 ≤ n → IsThereBehind (standing c.args.manager.now) (take n c.args.events.now) c.args.key c.args.is_wanted)
      c.loop-count.count
      (λ n below few. c.loop-count.invariant.so n below few)
      (λ few. there_before (take c.loop-count.count c.args.events.now) c.args.key c.args.is_wanted c.loop-count.invariant.kept
      (c.is_so.ensures.so c.if-not-is_so.false));
  kept = kept_on c.loop-count.invariant.kept c.is_so.ensures.kept;
}

pub returns-clause-stays : goal.returns-clause-stays
returns-clause-stays g c = λ is count few within. c.loop-count.invariant.so count (omega (arith, within)) few
