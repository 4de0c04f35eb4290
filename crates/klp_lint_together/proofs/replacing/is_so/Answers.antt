use Rattle.std.proofs.Common.{Bool, sym, subst, ◌∙◌}
use Rattle.klp_lint_findings.specs.Claims.{IsThereBehind}
use Rattle.klp_lint_findings.specs.Standing.{standing}
use Rattle.klp_lint_together.proofs.BehindLemmas.{not_true}
use Rattle.klp_lint_together.proofs.replacing.is_so.Goals as goal

pub returns-then-is_wanted-clause-so : goal.returns-then-is_wanted-clause-so
returns-then-is_wanted-clause-so g c = λ is.
    subst (λ (b : Bool). IsThereBehind (standing c.args.manager.now) c.args.events.now c.args.key b) (is ∙ sym c.if-is_wanted.true)
    c.is_there-has_it.ensures.behind

pub returns-else-is_wanted-clause-so : goal.returns-else-is_wanted-clause-so
returns-else-is_wanted-clause-so g c = λ is.
    subst (λ (b : Bool). IsThereBehind (standing c.args.manager.now) c.args.events.now c.args.key b)
    (not_true c.is_there-has_it.result is ∙ sym c.if-is_wanted.false) c.is_there-has_it.ensures.behind
