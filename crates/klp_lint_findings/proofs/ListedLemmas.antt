-- What a list says of a patch, a later list says too.
use Rattle.std.proofs.Common.{◌≡◌, ◌⊎◌, ℕ, Bool, true, Result, Ok, Err, subst, inl, inr}
use Rattle.std.specs.Prelude.{IfOk}
use Rattle.klp_types.specs.Setting.{Setting}
use Rattle.klp_model.specs.State.{State, is_installed}
use Rattle.klp_model.specs.Company.{IsFairStart}
use Rattle.klp_lint.specs.Premises.{ArePatchesOf}
use Rattle.klp_lint_findings.specs.declared.finding.Finding.{Finding}
use Rattle.klp_lint_findings.specs.declared.finding.Finding.TheVariants.{Trace}
use Rattle.klp_lint_findings.specs.declared.finding.TraceFinding.{TraceFinding}
use Rattle.klp_lint_findings.specs.declared.findings.Findings.{Findings}
use Rattle.klp_lint_findings.specs.Listed.{is_fault, IsFairOrListed, Lists}
use Rattle.klp_lint_findings.specs.Saying.{is_said_of, Says, Adds}
use Rattle.klp_lint_findings.specs.Sound.{Grows}

fair_on : (setting : Setting) (state : State) (patch : ℕ) (full : Bool) (one two : Findings)
    → ((finding : Finding) → Says one.said.items full finding → Says two.said.items full finding)
    → IsFairOrListed setting state patch full one → IsFairOrListed setting state patch full two
fair_on setting state patch full one two kept (inl fair) = inl fair
fair_on setting state patch full one two kept (inr (inl there)) = inr (inl there)
fair_on setting state patch full one two kept (inr (inr (finding, says, fault))) = inr (inr (finding, kept (Trace patch finding) says, fault))

pub lists_later : {setting : Setting} {state : State} {patch : ℕ} {full : Bool} {one two : Findings} → two.linted ≡ one.linted
    → ((finding : Finding) → Says one.said.items full finding → Says two.said.items full finding)
    → Lists setting state patch full one → Lists setting state patch full two
lists_later {setting = setting} {state = state} {patch = patch} {full = full} {one = one} {two = two} linted kept lists = record {
  listed = λ patches.
      fair_on setting state patch full one two kept
      (lists.listed (subst (λ l. ArePatchesOf setting l.patches.now) linted patches));
}

pub lists_on : {P : Finding → Type 0} {setting : Setting} {state : State} {patch : ℕ} {full : Bool} {one two : Findings}
    → Lists setting state patch full one → Adds P one two → Lists setting state patch full two
lists_on {full = full} lists adds = lists_later adds.grows.linted (adds.kept full) lists

-- a finding of the list says that a premise fails, where one does
said_if : (setting : Setting) (state : State) (patch : ℕ) (full : Bool) (found : Findings) (finding : TraceFinding)
    → Says found.said.items full (Trace patch finding)
    → IsFairStart setting patch state ⊎ ((is_installed state patch ≡ true) ⊎ (is_fault finding ≡ true))
    → IsFairOrListed setting state patch full found
said_if setting state patch full found finding says (inl fair) = inl fair
said_if setting state patch full found finding says (inr (inl there)) = inr (inl there)
said_if setting state patch full found finding says (inr (inr fault)) = inr (inr (finding, says, fault))

-- the same of a finding that was added, if memory didn't run out
pub ok_lists : {E : Type 0} (setting : Setting) (state : State) (patch : ℕ) (one two : Findings) (result : Result Unit E) (finding : TraceFinding)
    → (ArePatchesOf setting one.linted.patches.now → IsFairStart setting patch state ⊎ ((is_installed state patch ≡ true) ⊎ (is_fault finding ≡ true)))
    → IfOk result (λ _. (full : Bool) → is_said_of one.world full ≡ true → Says two.said.items full (Trace patch finding))
    → IfOk result (λ _. Grows one two)
    → IfOk result (λ _. (full : Bool) → is_said_of one.world full ≡ true → Lists setting state patch full two)
ok_lists setting state patch one two (Ok done) finding right says grows = λ full of. record {
  listed = λ patches.
      said_if setting state patch full two finding (says full of)
      (right (subst (λ l. ArePatchesOf setting l.patches.now) grows.linted patches));
}
ok_lists setting state patch one two (Err fault) finding right says grows = tt

-- a patch at a fair start needs no finding
pub fair_lists : (setting : Setting) (state : State) (patch : ℕ) (found : Findings)
    → (ArePatchesOf setting found.linted.patches.now → IsFairStart setting patch state) → (full : Bool) → Lists setting state patch full found
fair_lists setting state patch found fair full = record { listed = λ patches. inl (fair patches) }
