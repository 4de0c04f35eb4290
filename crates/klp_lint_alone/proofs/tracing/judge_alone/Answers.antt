-- The list goes on about the patches before, and is now about one more.
use Rattle.std.proofs.Common.{◌≡◌, ℕ, ◌<◌, true, arith, sym, subst, below_more}
use Rattle.klp_manager_state.specs.Managed.{setting_of}
use Rattle.klp_lint_findings.specs.Claims.{AddsTrue}
use Rattle.klp_lint_findings.specs.Listed.{Lists}
use Rattle.klp_lint_findings.specs.Saying.{is_said_of}
use Rattle.klp_lint_findings.specs.Sound.{Vouches}
use Rattle.klp_lint_findings.specs.Standing.{standing}
use Rattle.klp_lint_findings.proofs.SaidLemmas.{vouches_on}
use Rattle.klp_lint_findings.proofs.SayLemmas.{adds_still, adds_as}
use Rattle.klp_lint_findings.proofs.ClaimLemmas.{adds_true_on}
use Rattle.klp_lint_findings.proofs.ListedLemmas.{lists_on}
use Rattle.klp_lint_alone.proofs.AloneLemmas.{part_is_true}
use Rattle.klp_lint_alone.proofs.tracing.judge_alone.Goals as goal

pub loop-number-init : goal.loop-number-init
loop-number-init g c = record {
  adds = adds_still c.args.found.now;
  vouches = λ few patch below. absurd (omega (arith, below));
  listed = λ few full of patch below. absurd (omega (arith, below));
}

pub loop-number-preserved : goal.loop-number-preserved
loop-number-preserved g c =
    let here = standing c.args.manager.now in
    let parts = c.in_ok-find_parts.ensures in
    let step : AddsTrue here c.loop-number.found c.find_parts.new.found =
    adds_true_on here c.in_ok-find_trace.ensures.adds
    (adds_as (part_is_true c.find_trace.new.found.linted here c.patch_id-patch.result) parts) in
    record {
      adds = adds_true_on here c.loop-number.invariant.adds step;
      vouches = λ few.
          let byte : c.loop-number.number < 256 = omega arith in
          below_more
          (λ p. Vouches (setting_of c.args.manager.now.managed) c.args.manager.now.managed.state p c.find_parts.new.found)
          c.loop-number.number
          (λ p h. vouches_on (c.loop-number.invariant.vouches few p h) step.grows)
          (subst
          (λ p. Vouches (setting_of c.args.manager.now.managed) c.args.manager.now.managed.state p c.find_parts.new.found)
          (c.patch_id-patch.ensures byte)
          (vouches_on c.in_ok-find_trace.ensures.vouches parts.grows));
      listed = λ few full of.
          let byte : c.loop-number.number < 256 = omega arith in
          let here_too : is_said_of c.loop-number.found.world full ≡ true =
          subst (λ w. is_said_of w full ≡ true) (sym c.loop-number.invariant.adds.grows.world) of in
          below_more
          (λ (p : ℕ). Lists (setting_of c.args.manager.now.managed) c.args.manager.now.managed.state p full c.find_parts.new.found)
          c.loop-number.number
          (λ p below. lists_on (c.loop-number.invariant.listed few full of p below) step)
          (subst
          (λ (p : ℕ). Lists (setting_of c.args.manager.now.managed) c.args.manager.now.managed.state p full c.find_parts.new.found)
          (c.patch_id-patch.ensures byte)
          (lists_on (c.in_ok-find_trace.ensures.listed full here_too) parts));
    }

pub returns-clause-grows : goal.returns-clause-grows
returns-clause-grows g c = c.loop-number.invariant.adds.grows
