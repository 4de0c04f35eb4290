-- What the rows of a page show of a script, and the moments that are seen with them.
use Rattle.std.specs.Prelude.{◌≡◌, ℕ, ◌+◌, ◌&&◌, Bool, false, not, List, [], ◌∷◌, ◌++◌, length, Option, Some, if◌then◌else◌}
use Rattle.klp_console_commands.specs.Lines.{request_of}
use Rattle.klp_console.specs.declared.outcome.LineOutcome.{LineOutcome}
use Rattle.klp_console.specs.Answered.{Answer, IsAnswered, names_in}
use Rattle.klp_console.specs.Outcomes.{is_refusal, IsOutcome}
use Rattle.klp_core.specs.Journaled.{Journaled}
use Rattle.klp_manager_state.specs.Managed.{setting_of}
use Rattle.klp_timeline.specs.declared.moment.Moment.{Moment}
use Rattle.klp_timeline.specs.declared.moment.Stay.{Stay}
use Rattle.klp_timeline.specs.declared.moment.Stay.TheVariants.{Holds}
use Rattle.klp_timeline.specs.declared.moment.View.{View}
use Rattle.klp_timeline.specs.Still.{are_same, is_still}
use Rattle.klp_page.specs.Views.{IsView, act_of}
use Rattle.klp_page.specs.declared.row.Row.{Row}

abbrev pub holder_of : ℕ → Option Stay → List ℕ
holder_of task (Some (Holds move version)) = task ∷ []
holder_of task other = []

-- the tasks that hold the transition up, where the first of these has this number
abbrev pub holders_from : ℕ → List (Option Stay) → List ℕ
holders_from task [] = []
holders_from task (stay ∷ stays) = holder_of task stay ++ holders_from (task + 1) stays

-- a row names them where something changed in where tasks sleep that matters
abbrev pub holders_shown : View → View → List ℕ
holders_shown before after = if are_same before.stays after.stays then [] else holders_from 0 after.stays

-- a line may be folded away: it was done, and a page has nothing to say of it
abbrev pub is_quiet : LineOutcome → View → Moment → Bool
is_quiet outcome before moment = not (is_refusal outcome) && is_still before moment

-- a line was answered, and came to this; the row has the line and its answer, and the moment is what the line did and what the manager shows afterwards
pub record IsRowOf (before after : Journaled) (view : View) (line : List ℕ) (row : Row) (moment : Moment) : Type 0 where
  pub answer : Answer
  pub outcome : LineOutcome
  pub answered : IsAnswered before after line answer
  pub became : IsOutcome before after (request_of (names_in before) line) outcome
  pub refuses : is_refusal outcome ≡ answer.is_refused
  pub seen : IsView (setting_of after.managed) after.managed.state moment.view
  pub did : moment.act ≡ act_of view.moving outcome (length before.groups) (length after.groups)
  pub line_is : row.line.items ≡ line
  pub answer_is : row.answer.items ≡ answer.text
  pub refused : row.is_refused ≡ answer.is_refused
  pub quiet : row.is_quiet ≡ is_quiet outcome view moment
  pub holders : row.holders.items ≡ holders_shown view moment.view

-- the same on a page of a script, which knows of no kernel
pub record IsScriptRow (before after : Journaled) (view : View) (line : List ℕ) (row : Row) (moment : Moment) : Type 0 where
  pub served : IsRowOf before after view line row moment
  pub unseen : row.seen.items ≡ []
  pub agrees : row.differs ≡ false

-- what was seen last
abbrev pub last_view : View → List Moment → View
last_view view [] = view
last_view view (moment ∷ run) = last_view moment.view run

-- a row and a moment for each line, in order, each line answered by the manager that the one before it left
abbrev pub AreRows : Journaled → Journaled → View → List (List ℕ) → List Row → List Moment → Type 0
AreRows before after view [] [] [] = after ≡ before
AreRows before after view (line ∷ lines) (row ∷ rows) (moment ∷ run) =
    (next : Journaled) × IsScriptRow before next view line row moment × AreRows next after moment.view lines rows run
AreRows before after view lines rows run = ⊥

-- a line was answered with this text, and this became of it
pub record IsAnsweredBy (before after : Journaled) (line text : List ℕ) (outcome : LineOutcome) : Type 0 where
  pub answer : Answer
  pub answered : IsAnswered before after line answer
  pub became : IsOutcome before after (request_of (names_in before) line) outcome
  pub refuses : is_refusal outcome ≡ answer.is_refused
  pub text_is : text ≡ answer.text

-- one more row and one more moment
pub record AddsRow (before after : Journaled) (opening : View) (line : List ℕ) (rows more_rows : List Row) (run more_run : List Moment) : Type 0 where
  pub row : Row
  pub moment : Moment
  pub is_row : IsScriptRow before after (last_view opening run) line row moment
  pub rows_are : more_rows ≡ rows ++ row ∷ []
  pub run_is : more_run ≡ run ++ moment ∷ []
