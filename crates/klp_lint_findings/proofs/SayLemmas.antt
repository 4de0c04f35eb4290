-- Lists of findings that go on.
use Rattle.std.proofs.Common.{◌≡◌, ◌⊎◌, Bool, true, Option, Some, Result, Ok, Err, List, [], ◌∷◌, ◌++◌, refl, sym, ◌∙◌, ap, subst, inl, inr}
use Rattle.std.proofs.lemmas.List.Elements.{Contains-push_cases, Contains-push, Contains-append_left}
use Rattle.std.specs.Prelude.{IfOk}
use Rattle.klp_lint_findings.specs.declared.finding.Finding.{Finding}
use Rattle.klp_lint_findings.specs.declared.findings.Findings.{Findings}
use Rattle.klp_lint_findings.specs.declared.findings.Said.{Said}
use Rattle.klp_lint_findings.specs.Sound.{one_decides}
use Rattle.klp_lint_findings.specs.Saying.{is_said_of, Says, Adds}
use Rattle.klp_lint_findings.proofs.SaidLemmas.{grows_on, push_decides}

-- a list that stays adds nothing
pub adds_still : {P : Finding → Type 0} (found : Findings) → Adds P found found
adds_still found = record {
  grows = record { linted = refl; world = refl; kept = λ h. h };
  kept = λ full finding said. said;
  more = λ full finding said. inl said;
}

-- one list goes on to another, and this one to a third
pub adds_on : {P : Finding → Type 0} {one two three : Findings} → Adds P one two → Adds P two three → Adds P one three
adds_on {P = P} {one = one} first second = record {
  grows = grows_on first.grows second.grows;
  kept = λ full finding said. second.kept full finding (first.kept full finding said);
  more = λ full finding said.
      elim (second.more full finding said) as (λ _. Says one.said.items full finding ⊎ ((is_said_of one.world full ≡ true) × P finding)) [
        | inl earlier ↦ first.more full finding earlier
        | inr this ↦ inr (subst (λ w. is_said_of w full ≡ true) first.grows.world this.0, this.1)
      ];
}

-- what was added has another property too
pub adds_as : {P Q : Finding → Type 0} {one two : Findings} → ((finding : Finding) → P finding → Q finding) → Adds P one two → Adds Q one two
adds_as {P = P} {Q = Q} {one = one} claims adds = record {
  grows = adds.grows;
  kept = adds.kept;
  more = λ full finding said.
      elim (adds.more full finding said) as (λ _. Says one.said.items full finding ⊎ ((is_said_of one.world full ≡ true) × Q finding)) [
        | inl earlier ↦ inl earlier
        | inr this ↦ inr (this.0, claims finding this.1)
      ];
}

-- this finding was added, and has the property
pub adds_it : {P : Finding → Type 0} {one two : Findings} (finding : Finding) → P finding → Adds (λ other. other ≡ finding) one two → Adds P one two
adds_it {P = P} finding claim adds = adds_as (λ other same. subst P (sym same) claim) adds

-- a finding is pushed
pub push_kept : (said : List Said) (new : Said) (full : Bool) (finding : Finding) → Says said full finding → Says (said ++ new ∷ []) full finding
unfolding Says
push_kept said new full finding (s, has, same, here) = (s, Contains-append_left said (new ∷ []) s has, same, here)

pub push_says : (said : List Said) (new : Said) (full : Bool) → is_said_of new.world full ≡ true → Says (said ++ new ∷ []) full new.finding
unfolding Says
push_says said new full here = (new, Contains-push said new, refl, here)

pub push_more : (said : List Said) (new : Said) (full : Bool) (finding : Finding) → Says (said ++ new ∷ []) full finding
    → Says said full finding ⊎ ((is_said_of new.world full ≡ true) × (finding ≡ new.finding))
unfolding Says
push_more said new full finding (s, has, same, here) =
    elim (Contains-push_cases said new s has) as (λ _. Says said full finding ⊎ ((is_said_of new.world full ≡ true) × (finding ≡ new.finding))) [
      | inl earlier ↦ inl (s, earlier, same, here)
      | inr this ↦ inr (subst (λ (t : Said). is_said_of t.world full ≡ true) (sym this) here, sym (ap (λ (t : Said). t.finding) this ∙ same))
    ]

-- a list that was pushed to
pub adds_pushed : (before after : Findings) (new : Said) → after.linted ≡ before.linted → after.world ≡ before.world → before.world ≡ new.world
    → after.said.items ≡ before.said.items ++ new ∷ [] → Adds (λ other. other ≡ new.finding) before after
adds_pushed before after new linted world judged items = record {
  grows = record {
    linted = linted;
    world = world;
    kept = λ h. ap one_decides items ∙ push_decides before.said.items new h;
  };
  kept = λ full finding said. subst (λ (list : List Said). Says list full finding) (sym items) (push_kept before.said.items new full finding said);
  more = λ full finding said.
      elim (push_more before.said.items new full finding (subst (λ (list : List Said). Says list full finding) items said))
      as (λ _. Says before.said.items full finding ⊎ ((is_said_of before.world full ≡ true) × (finding ≡ new.finding))) [
        | inl earlier ↦ inl earlier
        | inr this ↦ inr (subst (λ w. is_said_of w full ≡ true) (sym judged) this.0, this.1)
      ];
}

pub says_pushed : (before after : Findings) (new : Said) → before.world ≡ new.world → after.said.items ≡ before.said.items ++ new ∷ []
    → (full : Bool) → is_said_of before.world full ≡ true → Says after.said.items full new.finding
says_pushed before after new judged items full of =
    subst (λ (list : List Said). Says list full new.finding) (sym items)
    (push_says before.said.items new full (subst (λ w. is_said_of w full ≡ true) judged of))

-- a finding was added that there was, if memory didn't run out
pub ok_some : {E : Type 0} (one two : Findings) (result : Result Unit E) (finding : Option Finding) (this : Finding) → finding ≡ Some this
    → IfOk result (λ _. Adds (λ other. other ≡ this) one two) → IfOk result (λ _. Adds (λ other. finding ≡ Some other) one two)
ok_some one two (Ok done) finding this is adds = adds_as (λ other same. is ∙ ap Some (sym same)) adds
ok_some one two (Err fault) finding this is adds = tt
