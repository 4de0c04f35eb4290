-- What publishing a row leaves.
use Rattle.std.specs.Prelude.{◌≡◌, ◌+◌, [], ◌∷◌, ◌++◌, length}
use Rattle.klp_types.specs.Setting.{Setting}
use Rattle.klp_model.specs.State.{State}
use Rattle.klp_model.specs.declared.event.Event.{Event}
use Rattle.klp_model.specs.declared.event.Reply.{Reply}
use Rattle.klp_model.specs.Legal.{History, IsLegal}
use Rattle.klp_live.specs.Seats.{Knows, ReceiptValue}

-- The row is the last of the history, with the next number. The seat knows the whole history, and counts one event
-- more.
pub record IsPublished (setting : Setting) (base : State) (row : Event × Reply) (old new : History) (before after : Knows) (receipt : ReceiptValue) : Type 0 where
  pub legal : IsLegal setting base new
  pub list : new ≡ old ++ row ∷ []
  pub receipt_list : receipt ≡ record { number = length old + 1; event = row.0; reply = row.1; list = new }
  pub knows : after ≡ record { list = new; accepted = before.accepted + 1 }
