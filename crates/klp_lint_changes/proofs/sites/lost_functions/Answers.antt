use Rattle.std.proofs.Common.{◌≡◌, ℕ, true, inl, inr, sym, subst, ◌∙◌}
use Rattle.klp_lint_findings.specs.Claims.{IsLost}
use Rattle.klp_lint_findings.specs.Standing.{standing}
use Rattle.klp_lint_changes.proofs.sites.lost_functions.Goals as goal

pub loop-number-init : goal.loop-number-init
loop-number-init g c = λ number is. let none = sym (c.new-lost.ensures number) ∙ is in absurd (cc none)

pub loop-number-preserved : goal.loop-number-preserved
loop-number-preserved g c = λ number is.
    let lost = IsLost c.args.linted.now (standing c.args.manager.now) c.args.by c.args.gone c.args.place in
    elim (c.insert_if.ensures number is) as (λ _. lost number) [
      | inl was ↦ c.loop-number.invariant number was
      | inr this ↦ subst lost (sym this.0) (c.is_lost.ensures this.1)
    ]

pub returns-in_default : goal.returns-in_default
returns-in_default g c = λ number is. let none = sym (c.new-lost.ensures number) ∙ is in absurd (cc none)
