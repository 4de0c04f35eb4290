-- The lines of the console's input, and their answers.
use Rattle.std.specs.Prelude.{◌≡◌, ℕ, Bool, nat_le, List, [], ◌∷◌, ◌++◌, length}
use Rattle.std.specs.List.{list_all}
use Rattle.klp_core.specs.Journaled.{Journaled}
use Rattle.klp_core.specs.Withdrawal.{GoesOn, LeavesNoTrace}
use Rattle.klp_types.specs.declared.limits.TheConstants.{MAX_CONSOLE_LINE}
use Rattle.klp_console_io.specs.Lines.{lines_and_rest}
use Rattle.klp_console.specs.Answered.{Answer, IsAnswered}

-- the last line needs no line feed; if no byte is behind the last line feed, there is no further line
abbrev pub whole : List (List ℕ) → List (List ℕ)
whole [] = []
whole ([] ∷ []) = []
whole (line ∷ lines) = line ∷ whole lines

-- the lines of a text, also empty ones
abbrev pub lines_of : List ℕ → List (List ℕ)
lines_of bytes = whole (lines_and_rest bytes)

abbrev pub is_short : List ℕ → Bool
is_short line = nat_le (length line) MAX_CONSOLE_LINE

-- no line is too long
abbrev pub are_short : List (List ℕ) → Bool
are_short lines = list_all is_short lines

-- lines are answered in order, each by the manager that the line before it left
abbrev pub AreAnswered : Journaled → Journaled → List (List ℕ) → List Answer → Type 0
AreAnswered before after [] [] = after ≡ before
AreAnswered before after (line ∷ lines) (answer ∷ answers) = (next : Journaled) × IsAnswered before next line answer × AreAnswered next after lines answers
AreAnswered before after lines answers = ⊥

-- From each line on, a patch that isn't installed after the last line has left no trace, if the journal still begins
-- with the events that it had before the line: no `seal` comes after the line, and no `rewind` to fewer events than it
-- had then.
abbrev pub LeaveNoTrace : (before after : Journaled) (lines : List (List ℕ)) (answers : List Answer) → AreAnswered before after lines answers → Type 0
LeaveNoTrace before after (line ∷ lines) (answer ∷ answers) answered =
    (GoesOn before after → LeavesNoTrace before after) × LeaveNoTrace answered.0 after lines answers answered.2
LeaveNoTrace before after lines answers answered = Unit {0}

-- all answers, one behind the other
abbrev pub texts_of : List Answer → List ℕ
texts_of [] = []
texts_of (answer ∷ answers) = answer.text ++ texts_of answers
