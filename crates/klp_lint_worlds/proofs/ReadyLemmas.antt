-- What a list assures of patches.
use Rattle.std.proofs.Common.{◌≡◌, ◌⊎◌, ℕ, ◌<◌, ◌≤◌, Bool, true, false, not, ◌&&◌, List, Option, Some, None, length, refl, sym, ap, subst, inl, inr}
use Rattle.std.specs.List.{list_any}
use Rattle.klp_types.specs.Setting.{Setting}
use Rattle.klp_model.specs.State.{State, is_installed}
use Rattle.klp_model.specs.Company.{IsFairStart}
use Rattle.klp_lint.specs.Premises.{ArePatchesOf}
use Rattle.klp_manager_state.specs.Managed.{Managed, setting_of}
use Rattle.klp_lint_findings.specs.declared.findings.Findings.{Findings}
use Rattle.klp_lint_findings.specs.declared.linted.Linted.{Linted}
use Rattle.klp_lint_findings.specs.Deciding.{is_unknown, is_clean}
use Rattle.klp_lint_findings.specs.Sound.{one_decides, Grows, IsRight, VouchesBelow}
use Rattle.klp_lint_together.specs.Starting.{CanStart, StartsUnlessReported}
use Rattle.klp_core.specs.Journaled.{Journaled}
use Rattle.klp_lint_findings.specs.declared.linted.NamedText.{NamedText}
use Rattle.klp_lint_worlds.specs.Worlds.{with_modules, IsReady, Assures, AssuresAll, IsScripted}

-- the first of two tests that both fail fails
first_fails : (said unknown : Bool) → (not said && not unknown) ≡ true → said ≡ false
first_fails true unknown h = absurd (cc)
first_fails false unknown h = refl

-- a test that is stronger than one that fails, with the other, fails too
earlier_fails : (one two unknown : Bool) → (one ≡ true → two ≡ true) → (not two && not unknown) ≡ true → (not one && not unknown) ≡ true
earlier_fails true true unknown kept h = h
earlier_fails true false unknown kept h = let no = kept refl in absurd (cc)
earlier_fails false true unknown kept h = absurd (cc)
earlier_fails false false unknown kept h = h

-- what makes a longer list clean makes a shorter one clean
clean_before : (one two : Findings) → two.linted ≡ one.linted → (one_decides one.said.items ≡ true → one_decides two.said.items ≡ true)
    → is_clean two.said.items two.linted.marks.now ≡ true → is_clean one.said.items one.linted.marks.now ≡ true
clean_before one two linted kept clean =
    earlier_fails (one_decides one.said.items) (one_decides two.said.items) (list_any is_unknown one.linted.marks.now) kept
    (subst (λ l. is_clean two.said.items l.marks.now ≡ true) linted clean)

-- a patch that is at a fair start isn't installed, so it can be loaded
ready_of : (setting : Setting) (state : State) (patch : ℕ) → IsFairStart setting patch state
    → CanStart setting state patch ⊎ (is_installed state patch ≡ true) → IsReady setting state patch
ready_of setting state patch fair (inl starts) = inl (starts, fair)
ready_of setting state patch fair (inr there) = inr there

ready_if : (setting : Setting) (state : State) (patch : ℕ) → IsRight setting state patch
    → (state.moving ≡ None → CanStart setting state patch ⊎ (is_installed state patch ≡ true)) → IsReady setting state patch
ready_if setting state patch (inl fair) starts = ready_of setting state patch fair (starts fair.still)
ready_if setting state patch (inr there) starts = inr there

pub assured : (setting : Setting) (state : State) (patches : ℕ) (one two : Findings) → VouchesBelow setting state patches one → Grows one two
    → (state.moving ≡ None → (patch : ℕ) → patch < patches → StartsUnlessReported setting state patch two)
    → Assures setting state patches two
assured setting state patches one two vouches grows starts = record {
  ready = λ own clean patch below.
      ready_if setting state patch
      ((vouches patch below).right
      (subst (λ l. ArePatchesOf setting l.patches.now) grows.linted own)
      (clean_before one two grows.linted grows.kept clean))
      (λ still. (starts still patch below).starts
      (first_fails (one_decides two.said.items) (list_any is_unknown two.linted.marks.now) clean));
}

pub assures_on : (setting : Setting) (state : State) (patches : ℕ) (one two : Findings) → two.linted ≡ one.linted
    → (one_decides one.said.items ≡ true → one_decides two.said.items ≡ true)
    → Assures setting state patches one → Assures setting state patches two
assures_on setting state patches one two linted kept assures = record {
  ready = λ own clean patch below.
      assures.ready (subst (λ l. ArePatchesOf setting l.patches.now) linted own) (clean_before one two linted kept clean) patch below;
}

-- the patches are judged alone, and then loaded
pub assured_now : (before sealed : Managed) (zero one two : Findings) → sealed ≡ before
    → VouchesBelow (setting_of sealed) sealed.state (length zero.linted.patches.now) one → Grows zero one → Grows one two
    → (sealed.state.moving ≡ None → length one.linted.patches.now ≤ 256 → (patch : ℕ) → patch < length one.linted.patches.now
    → StartsUnlessReported (setting_of sealed) sealed.state patch two)
    → length zero.linted.patches.now ≤ 256
    → Assures (setting_of before) before.state (length zero.linted.patches.now) two
assured_now before sealed zero one two same vouches first second starts few =
    let counted : length one.linted.patches.now ≡ length zero.linted.patches.now = ap (λ (l : Linted). length l.patches.now) first.linted in
    let own = assured (setting_of sealed) sealed.state (length zero.linted.patches.now) one two vouches second
    (λ still patch below. starts still (subst (λ (n : ℕ). n ≤ 256) (sym counted) few) patch (subst (λ (n : ℕ). patch < n) (sym counted) below)) in
    subst (λ (m : Managed). Assures (setting_of m) m.state (length zero.linted.patches.now) two) same own

pub scripted_on : (start there : Journaled) (script : List ℕ) (one two : Findings) → (one_decides one.said.items ≡ true → one_decides two.said.items ≡ true)
    → IsScripted start there script one → IsScripted start there script two
scripted_on start there script one two kept scripted = record {
  answers = scripted.answers;
  answered = scripted.answered;
  refused = λ h. kept (scripted.refused h);
}

-- a script was done, and the patches are judged then
pub assured_script : (start there : Journaled) (script : NamedText) (modules : ℕ) (zero one two : Findings)
    → IsScripted start there script.bytes.now one → setting_of there.managed ≡ setting_of start.managed → Grows zero one → Grows one two
    → (length one.linted.patches.now ≤ 256 → Assures (setting_of there.managed) there.managed.state (length one.linted.patches.now) two)
    → length zero.linted.patches.now ≤ 256 → AssuresAll start (Some script) modules (length zero.linted.patches.now) two
assured_script start there script modules zero one two scripted same first second assures few =
    let counted : length one.linted.patches.now ≡ length zero.linted.patches.now = ap (λ (l : Linted). length l.patches.now) first.linted in
    let own = assures (subst (λ (n : ℕ). n ≤ 256) (sym counted) few) in (
      there,
      scripted_on start there script.bytes.now one two second.kept scripted,
      same,
      subst (λ (n : ℕ). Assures (setting_of start.managed) there.managed.state n two) counted
          (subst (λ (s : Setting). Assures s there.managed.state (length one.linted.patches.now) two) same own),
    )

-- what a list assures, a later one does
pub all_on : (start : Journaled) (script : Option NamedText) (modules patches : ℕ) (one two : Findings) → Grows one two
    → AssuresAll start script modules patches one → AssuresAll start script modules patches two
all_on start None modules patches one two grows assures = (
  assures_on (setting_of start.managed) start.managed.state patches one two grows.linted grows.kept assures.0,
  assures_on (setting_of start.managed) (with_modules (setting_of start.managed) start.managed.state modules) patches one two grows.linted grows.kept assures.1,
)
all_on start (Some script) modules patches one two grows (there, scripted, same, assures) = (
  there,
  scripted_on start there script.bytes.now one two grows.kept scripted,
  same,
  assures_on (setting_of start.managed) there.managed.state patches one two grows.linted grows.kept assures,
)
