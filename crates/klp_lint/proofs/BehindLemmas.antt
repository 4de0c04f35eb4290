-- Events that are taken back again, with all before them that came since the mark.
use Rattle.std.proofs.Common.{◌≡◌, ℕ, ◌<◌, ◌≤◌, ◌+◌, List, [], ◌∷◌, ◌++◌, take, length, map, Result, Ok, Err, refl, sym, ap, subst, ◌∙◌, append_assoc, append-nil, arith, length-append}
use Rattle.std.proofs.Math.Seq.{take-append_seam}
use Rattle.std.specs.Prelude.{IfOk, IfErr}
use Rattle.klp_model.specs.declared.event.Event.{Event}
use Rattle.klp_model.specs.declared.event.Reply.{Reply}
use Rattle.klp_model.specs.declared.event.Refusal.{Refusal}
use Rattle.klp_types.specs.Setting.{Setting}
use Rattle.klp_model.specs.Legal.{state_after_history}
use Rattle.klp_model.specs.Run.{run}
use Rattle.klp_model.specs.State.{State}
use Rattle.klp_journal.specs.Journal.{Group}
use Rattle.klp_manager_state.specs.Managed.{setting_of}
use Rattle.klp_core.specs.declared.fault.BadMark.{BadMark}
use Rattle.klp_core.specs.Journaled.{Journaled, history_in, IsWellFormed}
use Rattle.klp_core.specs.Rewinding.{IsRewound}
use Rattle.klp_core.specs.Taking.{IsTaken, AreTaken, Outcome, AreOutcomes, answer_in, groups_left}
use Rattle.klp_core.specs.Withdrawal.{GoesOn}
use Rattle.klp_lint.specs.Behind.{IsBack, IsAnsweredBehind}

pub goes_on : (before there : Journaled) (events : List Event) (counts : ℕ × ℕ) → AreTaken before there events counts → GoesOn before there
goes_on before there events counts taken = record { more = groups_left taken.outcomes; groups = taken.groups; base = taken.base }

pub goes_one_on : (before there last : Journaled) (event : Event) (result : Result Reply Refusal) → GoesOn before there → IsTaken there last event result
    → GoesOn before last
goes_one_on before there last event (Ok reply) on taken =
    let group = taken.accepted.group in
    record {
      more = on.more ++ group ∷ [];
      groups = taken.accepted.groups ∙ ap (λ gs. gs ++ group ∷ []) on.groups ∙ append_assoc before.groups on.more (group ∷ []);
      base = taken.accepted.base ∙ on.base;
    }
goes_one_on before there last event (Err refusal) on taken = subst (GoesOn before) (sym taken.refused) on

no_outcomes : (setting : Setting) (state : State) (groups : List Group) (outcomes : List Outcome) → AreOutcomes setting state groups [] outcomes → outcomes ≡ []
no_outcomes setting state groups [] are = refl
no_outcomes setting state groups (Ok group ∷ outcomes) are = absurd are
no_outcomes setting state groups (Err refusal ∷ outcomes) are = absurd are

-- behind no events the answer is that of the definitions at the manager's own state
pub answered_now : (before after : Journaled) (event : Event) (result : Result Reply Refusal) → IsAnsweredBehind before after [] event result
    → result ≡ answer_in (setting_of before.managed) before.managed.state before.groups event
answered_now before after event result behind =
    let there = behind.there in
    let none = no_outcomes (setting_of before.managed) before.managed.state before.groups behind.taken.outcomes behind.taken.each in
    let events : List Outcome → List Event = λ outcomes. map (λ (g : Group). g.event) (groups_left outcomes) in
    let state : there.managed.state ≡ before.managed.state =
    ap (λ m. m.state) behind.taken.left ∙ ap (λ o. run (setting_of before.managed) before.managed.state (events o)) none in
    let groups : there.groups ≡ before.groups =
    behind.taken.groups ∙ ap (λ o. before.groups ++ groups_left o) none ∙ append-nil before.groups in
    behind.answered.answered ∙ ap (λ s. answer_in s there.managed.state there.groups event) behind.setting
    ∙ ap (λ s. answer_in (setting_of before.managed) s there.groups event) state
    ∙ ap (λ gs. answer_in (setting_of before.managed) before.managed.state gs event) groups

-- A manager that went on is rewound to the mark that it had: it is back.
rewound : (before last after : Journaled) → IsWellFormed before → GoesOn before last → setting_of last.managed ≡ setting_of before.managed
    → IsRewound last after (length before.groups) → IsBack before last after
rewound before last after stood on same back =
    let kept : take (length before.groups) last.groups ≡ before.groups =
    ap (take (length before.groups)) on.groups ∙ take-append_seam before.groups on.more in
    record {
      image = back.image ∙ ap (λ s. s.image) same;
      state = back.state ∙ ap (λ s. state_after_history s last.base (history_in (take (length before.groups) last.groups))) same
          ∙ ap (λ b. state_after_history (setting_of before.managed) b (history_in (take (length before.groups) last.groups))) on.base
          ∙ ap (λ gs. state_after_history (setting_of before.managed) before.base (history_in gs)) kept
          ∙ sym stood.state;
      base = back.base ∙ on.base;
      groups = back.groups ∙ kept;
      catalog = back.catalog;
    }

-- The rewind isn't refused, since the mark is one that the manager had.
pub is_back : (before last after : Journaled) (mark : ℕ) (result : Result Unit BadMark) → mark ≡ length before.groups → IsWellFormed before
    → GoesOn before last → setting_of last.managed ≡ setting_of before.managed
    → IfOk result (λ _. (mark ≤ length last.groups) × IsRewound last after mark) → IfErr result (λ _. length last.groups < mark) → IsBack before last after
is_back before last after mark (Ok done) is stood on same back short = rewound before last after stood on same (subst (IsRewound last after) is back.1)
is_back before last after mark (Err fault) is stood on same back short =
    let longer : length last.groups ≡ length before.groups + length on.more =
    ap length on.groups ∙ length-append before.groups on.more in
    absurd (omega (arith, longer, is, short))
