-- Lists of findings.
use Rattle.std.proofs.Common.{◌≡◌, ℕ, Bool, true, false, not, ◌&&◌, ◌||◌, List, [], ◌∷◌, ◌++◌, refl, ◌∙◌, subst}
use Rattle.std.specs.List.{list_any}
use Rattle.klp_types.specs.Setting.{Setting}
use Rattle.klp_model.specs.State.{State}
use Rattle.klp_lint.specs.Premises.{ArePatchesOf}
use Rattle.klp_lint_findings.specs.declared.findings.Findings.{Findings}
use Rattle.klp_lint_findings.specs.declared.findings.Said.{Said}
use Rattle.klp_lint_findings.specs.declared.marks.Mark.{Mark}
use Rattle.klp_lint_findings.specs.Deciding.{decides, is_unknown, is_clean}
use Rattle.klp_lint_findings.specs.Sound.{one_decides, Grows, Vouches}

-- a test of which one element passes goes on so
or_kept : (first early later : Bool) → (early ≡ true → later ≡ true) → (first || early) ≡ true → (first || later) ≡ true
or_kept true early later kept h = refl
or_kept false early later kept h = kept h

any_kept : {X : Type 0} (p : X → Bool) (xs : List X) (y : X) → list_any p xs ≡ true → list_any p (xs ++ y ∷ []) ≡ true
any_kept p [] y h = absurd (cc)
any_kept p (x ∷ xs) y h = or_kept (p x) (list_any p xs) (list_any p (xs ++ y ∷ [])) (any_kept p xs y) h

-- what made the status 3 still does
pub push_decides : (said : List Said) (new : Said) → one_decides said ≡ true → one_decides (said ++ new ∷ []) ≡ true
push_decides said new h = any_kept (λ (s : Said). decides s.finding) said new h

pub grows_on : {one two three : Findings} → Grows one two → Grows two three → Grows one three
grows_on first second = record {
  linted = second.linted ∙ first.linted;
  world = second.world ∙ first.world;
  kept = λ h. second.kept (first.kept h);
}

-- if the first test of a pair that neither passes is stronger than another, neither of the pair with the other passes
none_passes-before : (a b m : Bool) → (a ≡ true → b ≡ true) → (not b && not m) ≡ true → (not a && not m) ≡ true
none_passes-before true true m kept h = h
none_passes-before true false m kept h = let two = kept refl in absurd (cc)
none_passes-before false true m kept h = absurd (cc)
none_passes-before false false m kept h = h

-- what makes a longer list clean makes a shorter one clean
pub clean-before : (one two : List Said) (marks : List Mark) → (one_decides one ≡ true → one_decides two ≡ true)
    → is_clean two marks ≡ true → is_clean one marks ≡ true
clean-before one two marks kept h =
    none_passes-before (one_decides one) (one_decides two) (list_any is_unknown marks) kept h

-- a later list vouches for what an earlier one vouches for
pub vouches_later : {setting : Setting} {state : State} {patch : ℕ} {one two : Findings} → two.linted ≡ one.linted
    → (one_decides one.said.items ≡ true → one_decides two.said.items ≡ true)
    → Vouches setting state patch one → Vouches setting state patch two
vouches_later {setting = setting} {state = state} {patch = patch} {one = one} {two = two} linted kept vouches = record {
  right = λ patches clean.
      vouches.right
      (subst (λ l. ArePatchesOf setting l.patches.now) linted patches)
      (clean-before one.said.items two.said.items one.linted.marks.now kept
      (subst (λ l. is_clean two.said.items l.marks.now ≡ true) linted clean));
}

pub vouches_on : {setting : Setting} {state : State} {patch : ℕ} {one two : Findings}
    → Vouches setting state patch one → Grows one two → Vouches setting state patch two
vouches_on vouches grows = vouches_later grows.linted grows.kept vouches
