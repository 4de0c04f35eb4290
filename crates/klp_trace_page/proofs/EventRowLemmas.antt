-- The row of an event: with the kernel's answer beside that of the rules, if the trace has it.
use Rattle.std.proofs.Common.{◌≡◌, ℕ, ◌&&◌, Bool, true, false, not, List, bytes_eq, Some, None, refl, sym, ap, subst, ◌∙◌}
use Rattle.std.specs.Prelude.{Result, Ok, Err, IfOk}
use Rattle.klp_model.specs.declared.event.Reply.{Reply}
use Rattle.klp_model.specs.declared.event.Refusal.{Refusal}
use Rattle.klp_core.specs.Journaled.{Journaled, with_room}
use Rattle.klp_console.specs.Replies.{answer_text}
use Rattle.klp_timeline.specs.declared.moment.Moment.{Moment}
use Rattle.klp_timeline.specs.declared.moment.View.{View}
use Rattle.klp_page.specs.declared.row.Row.{Row}
use Rattle.klp_page.specs.Rows.{IsScriptRow}
use Rattle.klp_trace_page.specs.Traced.{IsTakenRow, IsPlayedEvent, IsEventRow}

stays_quiet : (quiet differs : Bool) → differs ≡ false → quiet ≡ (quiet && not differs)
stays_quiet true true is = is
stays_quiet false true is = refl
stays_quiet true false is = refl
stays_quiet false false is = refl

-- the row of a line of the console is that of an event of which no answer is known
pub not_answered : (there after : Journaled) (view : View) (text : List ℕ) (row : Row) (moment : Moment)
    → IsScriptRow there after view text row moment → IsEventRow there after view text None row moment
not_answered there after view text row moment is = record {
  own = row;
  served = is;
  row_is = ap (λ (quiet : Bool). record row { is_quiet = quiet; seen = row.seen; differs = row.differs }) (stays_quiet row.is_quiet row.differs is.agrees);
  seen_is = is.unseen;
  differs_is = is.agrees;
}

-- and with the kernel's answer put beside
pub answered : (there after : Journaled) (view : View) (text : List ℕ) (answer : Result Reply Refusal) (own row : Row) (moment : Moment) (seen : List ℕ)
    → IsScriptRow there after view text own moment
    → row ≡ record own { is_quiet = own.is_quiet && not row.differs; seen = row.seen; differs = row.differs }
    → row.seen.items ≡ seen → row.differs ≡ not (bytes_eq own.answer.items seen)
    → seen ≡ answer_text after.managed.catalog answer
    → IsEventRow there after view text (Some answer) row moment
answered there after view text answer own row moment seen served is seen_is differs_is shown =
    let same : row.answer.items ≡ own.answer.items = ap (λ (r : Row). r.answer.items) is in
    record {
      own = own;
      served = served;
      row_is = is;
      seen_is = seen_is ∙ shown;
      differs_is = differs_is ∙ ap (λ (text : List ℕ). not (bytes_eq own.answer.items text)) (sym seen_is)
          ∙ ap (λ (text : List ℕ). not (bytes_eq text row.seen.items)) (sym same);
    }

-- the row of a line that was served, if there is one
pub taken : {E : Type 0} (before there after : Journaled) (view : View) (text : List ℕ) (made : Result (Row × Moment) E)
    → there ≡ with_room before → IfOk made (λ m. IsScriptRow there after view text m.0 m.1) → IfOk made (λ m. IsTakenRow before after view text m.0 m.1)
taken before there after view text (Ok m) roomy is = subst (λ (t : Journaled). IsScriptRow t after view text m.0 m.1) roomy is
taken before there after view text (Err e) roomy is = tt

-- and the same, as that of an event of which no answer is known
pub taken_alone : {E : Type 0} (before after : Journaled) (view : View) (text : List ℕ) (made : Result (Row × Moment) E)
    → IfOk made (λ m. IsTakenRow before after view text m.0 m.1) → IfOk made (λ m. IsPlayedEvent before after view text None m.0 m.1)
taken_alone before after view text (Ok m) is = not_answered (with_room before) after view text m.0 m.1 is
taken_alone before after view text (Err e) is = tt
