-- Managers that differ at most in their undo records, and answers without `JournalFull`.
use Rattle.std.specs.Prelude.{◌≡◌, ◌≢◌, List, [], ◌∷◌}
use Rattle.klp_model.specs.declared.event.Refusal.TheVariants.{JournalFull}
use Rattle.klp_core.specs.Journaled.{Journaled, history_in}
use Rattle.klp_console.specs.Answered.{Answer}
use Rattle.klp_console.specs.Refusals.{refusal_text}

-- the same image, catalog with its counts, state and base, and the same events with their replies
pub record AreAlike (one other : Journaled) : Type 0 where
  pub managed : one.managed ≡ other.managed
  pub base : one.base ≡ other.base
  pub events : history_in one.groups ≡ history_in other.groups

-- none of these answers says that the journal is full
abbrev pub NoneIsFull : List Answer → Type 0
NoneIsFull [] = Unit {0}
NoneIsFull (answer ∷ answers) = (answer.text ≢ refusal_text JournalFull) × NoneIsFull answers
