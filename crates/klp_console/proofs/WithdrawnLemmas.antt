-- What lines leave of the setting, and that what is withdrawn by them leaves no trace.
use Rattle.std.proofs.Common.{◌≡◌, ℕ, List, [], ◌∷◌, Option, Some, None, inl, inr, sym, ap, subst, ◌∙◌}
use Rattle.std.specs.Prelude.{Result, Ok, Err}
use Rattle.klp_types.specs.Image.{Image}
use Rattle.klp_catalog.specs.Catalog.{Catalog}
use Rattle.klp_manager_state.specs.Managed.{setting_of}
use Rattle.klp_core.specs.Journaled.{Journaled, IsWellFormed}
use Rattle.klp_core.specs.Rewinding.{IsRewound}
use Rattle.klp_core.specs.Withdrawal.{GoesOn, LeavesNoTrace}
use Rattle.klp_core.proofs.JournalLemmas.{same_setting_taken}
use Rattle.klp_console_commands.specs.declared.request.Request.{Request}
use Rattle.klp_console_commands.specs.declared.request.Request.TheVariants.{Take, ForceNothing, Rewind, Seal, Ask}
use Rattle.klp_console_commands.specs.declared.fault.LineFault.{LineFault}
use Rattle.klp_console_commands.specs.Lines.{request_of}
use Rattle.klp_console.specs.Answered.{Answer, IsDone, IsDoneIf, names_in}
use Rattle.klp_console.specs.Lines.{AreAnswered, LeaveNoTrace}

-- the law of two managers
abbrev pub NoTraceLaw : Type 0
NoTraceLaw = (earlier later : Journaled) → IsWellFormed earlier → IsWellFormed later → GoesOn earlier later
    → setting_of later.managed ≡ setting_of earlier.managed → LeavesNoTrace earlier later

-- no line changes the setting

same_setting : (before after : Journaled) → after ≡ before → setting_of after.managed ≡ setting_of before.managed
same_setting before after same = ap (λ (m : Journaled). setting_of m.managed) same

rewound_setting : (before after : Journaled) (mark : ℕ) → IsRewound before after mark → setting_of after.managed ≡ setting_of before.managed
rewound_setting before after mark is =
    ap (λ (i : Image). setting_of (record after.managed { image = i })) is.image ∙ ap (λ (k : Catalog). setting_of (record before.managed { catalog = k })) is.catalog

done_setting : (before after : Journaled) (request : Request) (answer : Answer) → IsDone before after request answer → setting_of after.managed ≡ setting_of before.managed
done_setting before after (Take event) answer done = same_setting_taken before after event done.reply done.taken
done_setting before after (ForceNothing patch) answer done = same_setting before after done.0
done_setting before after (Rewind mark) answer (inl rewound) = rewound_setting before after mark rewound.1
done_setting before after (Rewind mark) answer (inr bad) = same_setting before after bad.1
done_setting before after Seal answer done = ap (λ (m : Journaled). setting_of m.managed) done.0
done_setting before after (Ask query) answer done = same_setting before after done.0

line_setting : (before after : Journaled) (request : Option (Result Request LineFault)) (answer : Answer) → IsDoneIf before after request answer
    → setting_of after.managed ≡ setting_of before.managed
line_setting before after None answer done = same_setting before after done.0
line_setting before after (Some (Err fault)) answer done = same_setting before after done.0
line_setting before after (Some (Ok request)) answer done = done_setting before after request answer done

-- what lines leave of a manager whose journal leads to its state

answered_setting : (before after : Journaled) (lines : List (List ℕ)) (answers : List Answer) → AreAnswered before after lines answers
    → setting_of after.managed ≡ setting_of before.managed
answered_setting before after [] [] answered = same_setting before after answered
answered_setting before after [] (answer ∷ answers) answered = absurd answered
answered_setting before after (line ∷ lines) [] answered = absurd answered
answered_setting before after (line ∷ lines) (answer ∷ answers) answered =
    answered_setting answered.0 after lines answers answered.2 ∙ line_setting before answered.0 (request_of (names_in before) line) answer answered.1.done

answered_stands : (before after : Journaled) (lines : List (List ℕ)) (answers : List Answer) → IsWellFormed before → AreAnswered before after lines answers → IsWellFormed after
answered_stands before after [] [] well_formed answered = subst IsWellFormed (sym answered) well_formed
answered_stands before after [] (answer ∷ answers) well_formed answered = absurd answered
answered_stands before after (line ∷ lines) [] well_formed answered = absurd answered
answered_stands before after (line ∷ lines) (answer ∷ answers) well_formed answered = answered_stands answered.0 after lines answers answered.1.well_formed answered.2

leave_no_trace : NoTraceLaw → (before after : Journaled) (lines : List (List ℕ)) (answers : List Answer) → IsWellFormed before → (answered : AreAnswered before after lines answers)
    → LeaveNoTrace before after lines answers answered
leave_no_trace law before after [] [] well_formed answered = tt
leave_no_trace law before after [] (answer ∷ answers) well_formed answered = tt
leave_no_trace law before after (line ∷ lines) [] well_formed answered = tt
leave_no_trace law before after (line ∷ lines) (answer ∷ answers) well_formed answered = (
  λ goes_on. law before after well_formed (answered_stands before after (line ∷ lines) (answer ∷ answers) well_formed answered) goes_on
      (answered_setting before after (line ∷ lines) (answer ∷ answers) answered),
  leave_no_trace law answered.0 after lines answers answered.1.well_formed answered.2,
)

-- whatever lines this manager answers, what is withdrawn by them leaves no trace
abbrev pub LeavesNone : Journaled → Type 0
LeavesNone manager = (after : Journaled) (lines : List (List ℕ)) (answers : List Answer) → (answered : AreAnswered manager after lines answers)
    → LeaveNoTrace manager after lines answers answered

pub leaves_none : NoTraceLaw → (manager : Journaled) → IsWellFormed manager → LeavesNone manager
leaves_none law manager well_formed after lines answers answered = leave_no_trace law manager after lines answers well_formed answered
