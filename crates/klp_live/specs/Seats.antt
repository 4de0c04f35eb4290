-- What seats and receipts know.
use Rattle.std.specs.Prelude.{◌≡◌, ℕ, [], ◌∷◌, ◌++◌}
use Rattle.logbook.specs.Pages.{Book}
use Rattle.klp_model.specs.declared.event.Event.{Event}
use Rattle.klp_model.specs.declared.event.Reply.{Reply}
use Rattle.klp_model.specs.Legal.{History}
use Rattle.klp_live.specs.declared.published.Known.{Known}
use Rattle.klp_live.specs.declared.published.View.{View}

-- what a seat knows: a beginning of the history, and how many of its own events were accepted
pub record Knows : Type 0 where
  pub list : History
  pub accepted : ℕ

-- a receipt: an accepted event with its number and its reply, and the history up to it
pub record ReceiptValue : Type 0 where
  pub number : ℕ
  pub event : Event
  pub reply : Reply
  pub list : History

-- a reader knows one beginning of this history
abbrev pub IsOne : Book → View → Type 0
IsOne book views = (k : Known) × (views.known ≡ k ∷ []) × (k.seen.book ≡ book)

-- the row of this event and reply is the last
abbrev pub IsLast : History → Event → Reply → Type 0
IsLast list event reply = (old : History) × (list ≡ old ++ (event, reply) ∷ [])
