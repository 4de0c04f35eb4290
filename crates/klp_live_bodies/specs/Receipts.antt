-- The data of a receipt.
use Rattle.std.specs.Prelude.{ℕ}
use Rattle.klp_model.specs.declared.event.Event.{Event}
use Rattle.klp_model.specs.declared.event.Reply.{Reply}

-- an accepted event with its number, counted from 1, and its reply
pub record AcceptedValue : Type 0 where
  pub number : ℕ
  pub event : Event
  pub reply : Reply
