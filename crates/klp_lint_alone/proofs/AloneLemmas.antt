-- What is found about a patch alone is true.
use Rattle.std.proofs.Common.{◌≡◌, ◌⊎◌, ℕ, true, Option, Some, None, inl, inr, sym, subst}
use Rattle.std.specs.Prelude.{MatchOption}
use Rattle.klp_types.specs.Setting.{Setting}
use Rattle.klp_catalog_text.specs.Plan.{PlanTarget}
use Rattle.klp_model.specs.State.{State, is_installed, is_loaded}
use Rattle.klp_model.specs.Company.{IsFairStart}
use Rattle.klp_lint_findings.specs.declared.finding.Finding.{Finding}
use Rattle.klp_lint_findings.specs.declared.finding.TraceFinding.{TraceFinding}
use Rattle.klp_lint_findings.specs.declared.finding.TraceFinding.TheVariants.{NotUnderstood, MaybeCumulative}
use Rattle.klp_lint_findings.specs.declared.linted.Linted.{Linted}
use Rattle.klp_lint_findings.specs.declared.marks.MarkWord.TheVariants.{Unknown, Guessed}
use Rattle.klp_lint_findings.specs.Claims.{IsTrue}
use Rattle.klp_lint_findings.specs.Listed.{is_fault}
use Rattle.klp_lint_findings.specs.Standing.{Standing}
use Rattle.klp_lint_findings.specs.Targets.{target_at}
use Rattle.klp_lint_findings.proofs.ClaimLemmas.{trace_true, part_true}
use Rattle.klp_lint_alone.specs.Judged.{IsPartOf, IsNotUnderstood, IsMaybeCumulative}

pub part_is_true : (linted : Linted) (here : Standing) (patch : ℕ) (finding : Finding) → IsPartOf patch finding → IsTrue linted here finding
part_is_true linted here patch finding (part, is) = subst (IsTrue linted here) (sym is) (part_true linted here patch part)

pub unknown_is_true : (linted : Linted) (here : Standing) (patch : ℕ) (finding : Finding) → IsMaybeCumulative linted patch Unknown finding
    → IsTrue linted here finding
unknown_is_true linted here patch finding (mark, is, marked) =
    subst (IsTrue linted here) (sym is) (trace_true linted here patch (MaybeCumulative mark) (λ _. inl marked))

pub guessed_is_true : (linted : Linted) (here : Standing) (patch : ℕ) (finding : Finding) → IsMaybeCumulative linted patch Guessed finding
    → IsTrue linted here finding
guessed_is_true linted here patch finding (mark, is, marked) =
    subst (IsTrue linted here) (sym is) (trace_true linted here patch (MaybeCumulative mark) (λ _. inr marked))

pub not_understood_is_true : (linted : Linted) (here : Standing) (patch place : ℕ) (target : PlanTarget) → target_at linted.patches.now patch place ≡ Some target
    → is_loaded here.state target.object ≡ true → (finding : Finding) → IsNotUnderstood linted patch place finding → IsTrue linted here finding
not_understood_is_true linted here patch place target there loaded finding (mark, is, marked) =
    subst (IsTrue linted here) (sym is) (trace_true linted here patch (NotUnderstood place mark) (λ _. ((target, there, loaded), marked)))

-- whatever is found of a patch at a fair start
pub fair_either : (setting : Setting) (state : State) (patch : ℕ) (found : Option TraceFinding) → IsFairStart setting patch state
    → MatchOption found (IsFairStart setting patch state)
    (λ trace. IsFairStart setting patch state ⊎ ((is_installed state patch ≡ true) ⊎ (is_fault trace ≡ true)))
fair_either setting state patch None fair = fair
fair_either setting state patch (Some trace) fair = inl fair
