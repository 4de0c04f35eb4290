-- The rows of a trace: one for each of its lines, in order. The manager follows the rules.
use Rattle.std.specs.Prelude.{◌≡◌, ℕ, ◌==◌, ◌&&◌, true, false, not, nat_eq, List, [], ◌∷◌, ◌++◌, drop, codes, bytes_eq, Option, Some, None, is_some, Result, if◌then◌else◌}
use Rattle.std.specs.List.{starts_with, before_first, after_first}
use Rattle.klp_model.specs.declared.event.Reply.{Reply}
use Rattle.klp_model.specs.declared.event.Refusal.{Refusal}
use Rattle.klp_model.specs.declared.seen.Seen.TheVariants.{Event as Happens, Call as Calls, Return as Returns}
use Rattle.klp_catalog.specs.Catalog.{Catalog}
use Rattle.klp_manager_state.specs.Managed.{setting_of}
use Rattle.klp_core.specs.Journaled.{Journaled, with_room}
use Rattle.klp_console.specs.Replies.{answer_text}
use Rattle.klp_timeline.specs.declared.moment.Moment.{Moment}
use Rattle.klp_timeline.specs.declared.moment.View.{View}
use Rattle.klp_page.specs.Views.{IsView}
use Rattle.klp_watch.specs.declared.observed.Observed.{Observed}
use Rattle.klp_watch.specs.declared.observed.Observed.TheVariants.{Seen as Item, Answered, Saw}
use Rattle.klp_page.specs.declared.row.Row.{Row}
use Rattle.klp_page.specs.Rows.{IsScriptRow}
use Rattle.klp_trace_page.specs.Rules.{rules_text, sight_text}

-- a line without the time in front
abbrev pub untimed : List ℕ → List ℕ
untimed line = if starts_with nat_eq line (codes "@") then after_first (λ b. b == 32) (drop 1 line) else line

-- what happened or was seen, without the kernel's answer
abbrev pub item_text : List ℕ → List ℕ
item_text line =
    if starts_with nat_eq (after_first (λ b. b == 61) (untimed line)) (codes "> ") then before_first (λ b. b == 61) (untimed line) else untimed line

-- the kernel's answer, as the console writes it, if the trace has it
abbrev pub answer_seen : Catalog → Option (Result Reply Refusal) → List ℕ
answer_seen catalog None = []
answer_seen catalog (Some answer) = answer_text catalog answer

-- An event of the trace is taken as the line of the console that asks for it, with that line's row. The kernel's answer stands beside the
-- rules', and marks the row if it is another.
pub record IsEventRow (before after : Journaled) (view : View) (text : List ℕ) (answer : Option (Result Reply Refusal)) (row : Row) (moment : Moment) : Type 0 where
  pub own : Row
  pub served : IsScriptRow before after view text own moment
  pub row_is : row ≡ record own { is_quiet = own.is_quiet && not row.differs; seen = row.seen; differs = row.differs }
  pub seen_is : row.seen.items ≡ answer_seen after.managed.catalog answer
  pub differs_is : row.differs ≡ (is_some answer && not (bytes_eq row.answer.items row.seen.items))

-- Nothing changes by an item that isn't an event. What the kernel showed stands beside what the rules say, and marks the row if it is
-- something else
pub record IsStillRow (before after : Journaled) (text rules seen : List ℕ) (row : Row) (moment : Moment) : Type 0 where
  pub same : after ≡ before
  pub view_is : IsView (setting_of before.managed) before.managed.state moment.view
  pub did_nothing : moment.act ≡ None
  pub line_is : row.line.items ≡ text
  pub answer_is : row.answer.items ≡ rules
  pub seen_is : row.seen.items ≡ seen
  pub differs_is : row.differs ≡ not (bytes_eq rules seen)
  pub quiet : row.is_quiet ≡ not row.differs
  pub taken : row.is_refused ≡ false
  pub no_holders : row.holders.items ≡ []
  pub no_cards : row.cards.text ≡ []

-- a line of the console that asks for an event was served, with room in the journal for it
abbrev pub IsTakenRow : Journaled → Journaled → View → List ℕ → Row → Moment → Type 0
IsTakenRow before after view text row moment = IsScriptRow (with_room before) after view text row moment

-- an event of the trace was taken, with room in the journal for it
abbrev pub IsPlayedEvent : Journaled → Journaled → View → List ℕ → Option (Result Reply Refusal) → Row → Moment → Type 0
IsPlayedEvent before after view text answer row moment = IsEventRow (with_room before) after view text answer row moment

-- the row of a line with this item
abbrev pub IsTracedRow : Journaled → Journaled → View → List ℕ → Observed → Row → Moment → Type 0
IsTracedRow before after view text (Item (Happens event)) row moment = IsPlayedEvent before after view text None row moment
IsTracedRow before after view text (Item (Calls task site)) row moment = IsStillRow before after text [] [] row moment
IsTracedRow before after view text (Item (Returns task)) row moment = IsStillRow before after text [] [] row moment
IsTracedRow before after view text (Answered event answer) row moment = IsPlayedEvent before after view text (Some answer) row moment
IsTracedRow before after view text (Saw sight) row moment = IsStillRow before after text (rules_text before sight) (sight_text before.managed.catalog sight) row moment

-- a row and a moment for each line with its item, in order
abbrev pub AreTraced : Journaled → Journaled → View → List (List ℕ) → List Observed → List Row → List Moment → Type 0
AreTraced before after view [] [] [] [] = after ≡ before
AreTraced before after view (line ∷ lines) (item ∷ items) (row ∷ rows) (moment ∷ run) =
    (next : Journaled) × IsTracedRow before next view (item_text line) item row moment × AreTraced next after moment.view lines items rows run
AreTraced before after view lines items rows run = ⊥

-- one more row and one more moment
pub record AddsTracedRow (before after : Journaled) (view : View) (line : List ℕ) (item : Observed) (rows more_rows : List Row) (run more_run : List Moment) : Type 0 where
  pub row : Row
  pub moment : Moment
  pub is_row : IsTracedRow before after view (item_text line) item row moment
  pub rows_are : more_rows ≡ rows ++ row ∷ []
  pub run_is : more_run ≡ run ++ moment ∷ []
