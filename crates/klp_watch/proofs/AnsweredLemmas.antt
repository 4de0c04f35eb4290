-- An event whose answer was observed.
use Rattle.std.proofs.Common.{◌≡◌, ℕ, ◌<◌, ◌≤◌, arith, Bool, true, false, List, [], ◌∷◌, length, take, sym, ap, subst, ◌∙◌}
use Rattle.std.proofs.Math.Seq.{take-append_seam}
use Rattle.std.proofs.lemmas.List.{length-append}
use Rattle.std.specs.Prelude.{is_ok, is_err, Result, Ok, Err, IfOk, IfErr, if◌then◌else◌}
use Rattle.klp_types.specs.declared.version.Version.{Version}
use Rattle.klp_types.specs.Entries.{is_empty}
use Rattle.klp_types.specs.Setting.{Setting}
use Rattle.klp_model.specs.declared.event.Event.{Event}
use Rattle.klp_model.specs.declared.event.Event.TheVariants.{Force, Going, EndTask, ExitToUser, Sleep}
use Rattle.klp_model.specs.declared.event.Reply.{Reply}
use Rattle.klp_model.specs.declared.event.Refusal.{Refusal}
use Rattle.klp_model.specs.declared.seen.Seen.TheVariants.{Event as Happens}
use Rattle.klp_model.specs.Legal.{state_after_history}
use Rattle.klp_model.specs.State.{State}
use Rattle.klp_model.specs.Observed.{Frame, Stacks, IsHonestEvent}
use Rattle.klp_manager_state.specs.Managed.{Managed, setting_of}
use Rattle.klp_core.specs.Journaled.{Journaled, IsWellFormed, history_in}
use Rattle.klp_core.specs.Rewinding.{IsRewound}
use Rattle.klp_core.specs.Taking.{IsTaken, answer_in}
use Rattle.klp_watch.specs.declared.cause.Cause.{Cause}
use Rattle.klp_watch.specs.declared.cause.Cause.TheVariants.{Frames, FramesLeft, ModuleInUse, Forced}
use Rattle.klp_watch.specs.declared.observed.Observed.TheVariants.{Answered}
use Rattle.klp_watch.specs.declared.difference.Difference.{Difference}
use Rattle.klp_watch.specs.declared.difference.Difference.TheVariants.{Premise, Answer}
use Rattle.klp_watch.specs.Inside.{AreInside}
use Rattle.klp_watch.specs.Watching.{IsAgainst, once_taken_back}
use Rattle.klp_watch.specs.Compared.{IsDoneSo, IsFound, IsReportedFor}
use Rattle.klp_watch.proofs.DoneLemmas.{refused_done}

-- what is honest breaks no premise
pub breaks_none : (setting : Setting) (stacks : Stacks) (event : Event) (cause : Cause) → IsHonestEvent setting stacks event → IsAgainst setting stacks event cause → ⊥
breaks_none setting stacks (Sleep task frames) Frames honest is = is honest
breaks_none setting stacks (ExitToUser task) FramesLeft honest is = let none = ap (λ (fs : List Frame). is_empty fs) honest in let no : ⊥ = cc in no
breaks_none setting stacks (EndTask task) FramesLeft honest is = let none = ap (λ (fs : List Frame). is_empty fs) honest in let no : ⊥ = cc in no
breaks_none setting stacks (Going object) ModuleInUse honest is = let none = honest is.0 in let some = is.1 in let no : ⊥ = cc in no
breaks_none setting stacks (Force patch) Forced honest is = absurd honest
breaks_none setting stacks event cause honest is = absurd is

module _ (before after : Journaled) (stacks : Stacks) (event : Event) (answer : Result Reply Refusal) where
  -- a refused event, where the kernel answered otherwise
  pub reported_refused : (result : Result Reply Refusal) → IsTaken before after event result → is_err result ≡ true → (result ≡ answer → ⊥)
      → IsReportedFor before after stacks (Answered event answer) Answer
  reported_refused (Ok reply) taken is other = let no : ⊥ = cc in absurd no
  reported_refused (Err refusal) taken is other = record {
    why = (
      (λ so. other (taken.answered ∙ so)),
      (λ cause breaks. let both : false ≡ true = ap (λ (r : Result Reply Refusal). is_ok r) taken.answered ∙ breaks.0 in let no : ⊥ = cc in no),
    );
    left = taken.refused ∙ ap (λ (r : Result Reply Refusal). if is_ok r then once_taken_back before (Happens event) else before) taken.answered;
  }

  pub so_refused : (table : List (List Version)) (result : Result Reply Refusal) → IsTaken before after event result → is_err result ≡ true → result ≡ answer
      → AreInside table stacks → IsDoneSo before after stacks (Answered event answer) table
  so_refused table result taken is same are = (refused_done before after stacks event table result taken is are, sym taken.answered ∙ same)

-- an accepted event is taken back
module _ (before between after : Journaled) (event : Event) (well_formed : IsWellFormed before) (same : setting_of between.managed ≡ setting_of before.managed) where
  pub given_back : (reply : Reply) → IsTaken before between event (Ok reply) → IsRewound between after (length before.groups) → after ≡ once_taken_back before (Happens event)
  given_back reply taken rewound =
      let appends = taken.accepted in
      let groups : take (length before.groups) between.groups ≡ before.groups =
      ap (take (length before.groups)) appends.groups ∙ take-append_seam before.groups (appends.group ∷ []) in
      let state : after.managed.state ≡ before.managed.state =
      rewound.state
      ∙ ap (λ (s : Setting). state_after_history s between.base (history_in (take (length before.groups) between.groups))) same
      ∙ ap (λ (b : State). state_after_history (setting_of before.managed) b (history_in (take (length before.groups) between.groups))) appends.base
      ∙ ap (λ gs. state_after_history (setting_of before.managed) before.base (history_in gs)) groups
      ∙ sym well_formed.state in
      let image = rewound.image ∙ ap (λ (m : Managed). m.image) appends.left in
      let catalog = rewound.catalog ∙ ap (λ (m : Managed). m.catalog) appends.left in
      let base = rewound.base ∙ appends.base in
      let kept = rewound.groups ∙ groups in
      λ i. record { managed = record { image = image i; catalog = catalog i; state = state i }; base = base i; groups = kept i }

  left_as_was : (reply : Reply) → IsTaken before between event (Ok reply) → IsRewound between after (length before.groups)
      → after ≡ (if is_ok (answer_in (setting_of before.managed) before.managed.state before.groups event) then once_taken_back before (Happens event) else before)
  left_as_was reply taken rewound =
      given_back reply taken rewound ∙ ap (λ (r : Result Reply Refusal). if is_ok r then once_taken_back before (Happens event) else before) taken.answered

  -- and told for the premise that it breaks, or for its answer
  pub reported_given_back : (stacks : Stacks) (answer result : Result Reply Refusal) (is_so : Bool) (difference : Difference)
      → IsTaken before between event result → is_err result ≡ false → IsRewound between after (length before.groups)
      → (is_so ≡ false → result ≡ answer → ⊥) → IsFound (setting_of between.managed) stacks event is_so difference
      → IsReportedFor before after stacks (Answered event answer) difference
  reported_given_back stacks answer (Err refusal) is_so difference taken is rewound other found = let no : ⊥ = cc in absurd no
  reported_given_back stacks answer (Ok reply) is_so (Premise cause) taken is rewound other found = record {
    why = (ap (λ (r : Result Reply Refusal). is_ok r) (sym taken.answered), subst (λ (s : Setting). IsAgainst s stacks event cause) same found);
    left = left_as_was reply taken rewound;
  }
  reported_given_back stacks answer (Ok reply) is_so Answer taken is rewound other found = record {
    why = (
      (λ so. other found.0 (taken.answered ∙ so)),
      (λ cause breaks. breaks_none (setting_of before.managed) stacks event cause (subst (λ (s : Setting). IsHonestEvent s stacks event) same found.1) breaks.1),
    );
    left = left_as_was reply taken rewound;
  }
  reported_given_back stacks answer (Ok reply) is_so difference taken is rewound other found = absurd found

-- a mark that there is leads back
pub is_back : {A E : Type 0} (before after : Journaled) (result : Result A E) (mark : ℕ) (back : IfOk result (λ _. (mark ≤ length before.groups) × IsRewound before after mark))
    → IfErr result (λ _. length before.groups < mark) → mark ≤ length before.groups → IsRewound before after mark
is_back before after (Ok value) mark back bad reaches = back.1
is_back before after (Err error) mark back bad reaches = absurd (omega (arith, bad, reaches))

-- the journal has what it had and the event
pub reaches : (before between : Journaled) (event : Event) (result : Result Reply Refusal) → IsTaken before between event result → is_err result ≡ false
    → length before.groups ≤ length between.groups
reaches before between event (Err refusal) taken is = let no : ⊥ = cc in absurd no
reaches before between event (Ok reply) taken is =
    let appends = taken.accepted in
    let longer = ap length appends.groups ∙ length-append before.groups (appends.group ∷ []) in
    omega (arith, longer)
