-- Patches are tried, and all events since are taken back.
use Rattle.std.proofs.Common.{◌≡◌, ℕ, Option, ◌<◌, ◌≤◌, ◌+◌, ◌-◌, List, [], ◌∷◌, ◌++◌, take, length, Result, Ok, Err, refl, sym, ap, subst, ◌∙◌, append_assoc, append-nil, arith, length-append}
use Rattle.std.proofs.Math.Seq.{take-append_seam, take-append-add}
use Rattle.std.specs.Prelude.{IfOk, IfErr, IfSome, OnErr}
use Rattle.klp_model.specs.declared.event.Event.{Event}
use Rattle.klp_model.specs.declared.event.Reply.{Reply}
use Rattle.klp_model.specs.declared.event.Refusal.{Refusal}
use Rattle.klp_model.specs.Legal.{state_after_history}
use Rattle.klp_journal.specs.Journal.{Group}
use Rattle.klp_manager_state.specs.Managed.{setting_of}
use Rattle.klp_core.specs.declared.fault.BadMark.{BadMark}
use Rattle.klp_core.specs.Journaled.{Journaled, history_in, IsWellFormed}
use Rattle.klp_core.specs.Rewinding.{IsRewound}
use Rattle.klp_core.specs.Taking.{IsTaken, AreTaken, groups_left}
use Rattle.klp_lint.specs.Behind.{IsBack}
use Rattle.klp_lint_findings.specs.declared.finding.Finding.{Finding}
use Rattle.klp_lint_findings.specs.declared.findings.Findings.{Findings}
use Rattle.klp_lint_findings.specs.declared.linted.Linted.{Linted}
use Rattle.klp_lint_findings.specs.Claims.{IsTrue, AddsTrue}
use Rattle.klp_lint_findings.specs.Standing.{Standing, standing}
use Rattle.klp_lint_together.specs.Kept.{IsAsBefore, IsFurther}

pub kept_still : (manager : Journaled) → IsAsBefore manager manager
kept_still manager = record { setting = refl; state = refl; base = refl; groups = refl }

pub kept_on : {one two three : Journaled} → IsAsBefore one two → IsAsBefore two three → IsAsBefore one three
kept_on first second = record {
  setting = second.setting ∙ first.setting;
  state = second.state ∙ first.state;
  base = second.base ∙ first.base;
  groups = second.groups ∙ first.groups;
}

pub kept_back : {before last after : Journaled} → IsBack before last after → setting_of after.managed ≡ setting_of before.managed → IsAsBefore before after
kept_back back same = record { setting = same; state = back.state; base = back.base; groups = back.groups }

pub further_still : (manager : Journaled) → IsFurther manager manager
further_still manager = record { on = record { more = []; groups = sym (append-nil manager.groups); base = refl }; setting = refl }

pub further_on : {one two three : Journaled} → IsFurther one two → IsFurther two three → IsFurther one three
further_on {one = one} first second = record {
  on = record {
    more = first.on.more ++ second.on.more;
    groups = second.on.groups ∙ ap (λ gs. gs ++ second.on.more) first.on.groups ∙ append_assoc one.groups first.on.more second.on.more;
    base = second.on.base ∙ first.on.base;
  };
  setting = second.setting ∙ first.setting;
}

pub further_kept : {one two three : Journaled} → IsFurther one two → IsAsBefore two three → IsFurther one three
further_kept further kept = record {
  on = record { more = further.on.more; groups = kept.groups ∙ further.on.groups; base = kept.base ∙ further.on.base };
  setting = kept.setting ∙ further.setting;
}

pub further_run : (before after : Journaled) (events : List Event) (counts : ℕ × ℕ) → AreTaken before after events counts
    → setting_of after.managed ≡ setting_of before.managed → IsFurther before after
further_run before after events counts taken same = record {
  on = record { more = groups_left taken.outcomes; groups = taken.groups; base = taken.base };
  setting = same;
}

pub further_taken : (before after : Journaled) (event : Event) (result : Result Reply Refusal) → IsTaken before after event result
    → setting_of after.managed ≡ setting_of before.managed → IsFurther before after
further_taken before after event (Ok reply) taken same = record {
  on = record { more = taken.accepted.group ∷ []; groups = taken.accepted.groups; base = taken.accepted.base };
  setting = same;
}
further_taken before after event (Err refusal) taken same = subst (IsFurther before) (sym taken.refused) (further_still before)

-- What went on is rewound to where it was: it is as before.
rewound : (before last after : Journaled) → IsWellFormed before → IsFurther before last → setting_of after.managed ≡ setting_of last.managed
    → IsRewound last after (length before.groups) → IsAsBefore before after
rewound before last after stood further same back =
    let kept : take (length before.groups) last.groups ≡ before.groups =
    ap (take (length before.groups)) further.on.groups ∙ take-append_seam before.groups further.on.more in
    record {
      setting = same ∙ further.setting;
      state = back.state ∙ ap (λ s. state_after_history s last.base (history_in (take (length before.groups) last.groups))) further.setting
          ∙ ap (λ b. state_after_history (setting_of before.managed) b (history_in (take (length before.groups) last.groups))) further.on.base
          ∙ ap (λ gs. state_after_history (setting_of before.managed) before.base (history_in gs)) kept
          ∙ sym stood.state;
      base = back.base ∙ further.on.base;
      groups = back.groups ∙ kept;
    }

pub taken_back : (last after : Journaled) (mark : ℕ) (result : Result Unit BadMark) → IfOk result (λ _. (mark ≤ length last.groups) × IsRewound last after mark)
    → IfErr result (λ _. length last.groups < mark) → setting_of after.managed ≡ setting_of last.managed
    → (start : Journaled) → IsWellFormed start → mark ≡ length start.groups → IsFurther start last → IsAsBefore start after
taken_back last after mark (Ok done) back short same start stood is further =
    rewound start last after stood further same (subst (IsRewound last after) is back.1)
taken_back last after mark (Err fault) back short same start stood is further =
    let longer : length last.groups ≡ length start.groups + length further.on.more =
    ap length further.on.groups ∙ length-append start.groups further.on.more in
    absurd (omega (arith, longer, is, short))

take_past : (first more : List Group) (mark : ℕ) → length first ≤ mark → take mark (first ++ more) ≡ first ++ take (mark - length first) more
take_past first more mark later =
    let whole : mark ≡ length first + (mark - length first) = omega arith in
    ap (λ n. take n (first ++ more)) whole ∙ take-append-add first more (mark - length first)

-- What went on is rewound to a later mark: it still goes on.
pub still_further : (last after : Journaled) (mark : ℕ) (result : Result Unit BadMark) → IfOk result (λ _. (mark ≤ length last.groups) × IsRewound last after mark)
    → OnErr result (after ≡ last) → setting_of after.managed ≡ setting_of last.managed
    → (start : Journaled) → length start.groups ≤ mark → IsFurther start last → IsFurther start after
still_further last after mark (Ok done) back stayed same start later further = record {
  on = record {
    more = take (mark - length start.groups) further.on.more;
    groups = back.1.groups ∙ ap (take mark) further.on.groups ∙ take_past start.groups further.on.more mark later;
    base = back.1.base ∙ further.on.base;
  };
  setting = same ∙ further.setting;
}
still_further last after mark (Err fault) back stayed same start later further = subst (IsFurther start) (sym stayed) further

-- findings are about the same of both managers
pub same_standing : {before now : Journaled} → IsAsBefore before now → standing now ≡ standing before
same_standing kept = λ i. record { setting = kept.setting i; state = kept.state i; groups = kept.groups i }

-- what is true of the one is true of the other
pub adds_before : {before now : Journaled} {one two : Findings} → IsAsBefore before now → AddsTrue (standing now) one two
    → AddsTrue (standing before) one two
adds_before {one = one} {two = two} kept adds = subst (λ (here : Standing). AddsTrue here one two) (same_standing kept) adds

pub true_before : {before now : Journaled} (linted : Linted) (finding : Option Finding) → IsAsBefore before now
    → IfSome finding (IsTrue linted (standing now)) → IfSome finding (IsTrue linted (standing before))
true_before linted finding kept claim = subst (λ (here : Standing). IfSome finding (IsTrue linted here)) (same_standing kept) claim
