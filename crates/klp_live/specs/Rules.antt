-- The rule of the history, and its step.
use Rattle.std.specs.Prelude.{ℕ, ◌≡◌, ◌==◌, true, List, [], ◌∷◌, ◌++◌, length, MatchBool}
use Rattle.logbook.specs.Pages.{Cell, Step, View, Book, Named}
use Rattle.klp_model.specs.declared.event.Event.{Event}
use Rattle.klp_model.specs.declared.event.Reply.{Reply}
use Rattle.klp_model.specs.Legal.{History}

-- the first word is the length of the history, and the second one isn't used
pub record IsKept (cells : List Cell) (log : History) : Type 0 where
  pub words : cells ≡ (length log, true) ∷ (0, true) ∷ []

-- the word that holds the length of the history
abbrev pub head_of : Book → Named
head_of b = record { tracked = true; key = 0; book = b }

-- the row was added behind all that had been seen, or the history had more rows
abbrev pub Adds : Step (Event × Reply) → View (Event × Reply) ℕ → ℕ → View (Event × Reply) ℕ → Type 0
Adds s v found w = MatchBool (found == s.old) (w.0 ≡ v.0 ++ s.ask ∷ []) (Unit {0})
