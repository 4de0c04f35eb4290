-- What a pass knows after it submitted an event, and what a start leaves when it is closed.
use Rattle.std.specs.Prelude.{◌≡◌, ◌≢◌, ◌+◌, List, [], ◌∷◌, ◌++◌, length, Result, Ok, Err}
use Rattle.std.specs.List.{All, sum_by}
use mathlib.Core.List.{IsPrefix}
use Rattle.klp_types.specs.Setting.{Setting}
use Rattle.klp_model.specs.State.{State}
use Rattle.klp_model.specs.declared.event.Event.{Event}
use Rattle.klp_model.specs.declared.event.Refusal.{Refusal}
use Rattle.klp_model.specs.declared.event.Refusal.TheVariants.{JournalFull}
use Rattle.klp_model.specs.Legal.{History, IsLegal, state_after_history}
use Rattle.klp_model.specs.Run.{answer}
use Rattle.klp_core.specs.Journaled.{Journaled}
use Rattle.klp_live.specs.Admitting.{IsManagerOf, FindsNoRoom}
use Rattle.klp_live.specs.Seats.{Knows, ReceiptValue}
use Rattle.klp_live.specs.declared.refusal.LiveRefusal.{LiveRefusal}
use Rattle.klp_live.specs.declared.refusal.LiveRefusal.TheVariants.{Refused, NoMemory}

-- The event was accepted: its row is the last of the history that the seat knows now, behind all that the seat knew
-- before. The reply is that of the model in the state before the event.
pub record IsSubmitted (setting : Setting) (base : State) (event : Event) (before after : Knows) (receipt : ReceiptValue) : Type 0 where
  pub legal : IsLegal setting base after.list
  pub older : History
  pub knew : IsPrefix before.list older
  pub answered : answer setting (state_after_history setting base older) event ≡ Ok receipt.reply
  pub list : after.list ≡ older ++ (event, receipt.reply) ∷ []
  pub number : receipt.number ≡ length after.list
  pub event_is : receipt.event ≡ event
  pub receipt_list : receipt.list ≡ after.list
  pub counts : after.accepted ≡ before.accepted + 1

-- the event was refused in the history that the seat knows now, which begins with all that the seat knew before
pub record IsTurnedBack (setting : Setting) (base : State) (event : Event) (before after : Knows) (refusal : Refusal) : Type 0 where
  pub legal : IsLegal setting base after.list
  pub knew : IsPrefix before.list after.list
  pub answered : refusal ≢ JournalFull → answer setting (state_after_history setting base after.list) event ≡ Err refusal
  pub full : refusal ≡ JournalFull → FindsNoRoom setting base after.list event
  pub counts : after.accepted ≡ before.accepted

-- the outcome of a submitted event
abbrev pub IsOutcome : Setting → State → Event → Knows → Knows → Result ReceiptValue LiveRefusal → Type 0
IsOutcome setting base event before after (Ok receipt) = IsSubmitted setting base event before after receipt
IsOutcome setting base event before after (Err (Refused refusal)) = IsTurnedBack setting base event before after refusal
IsOutcome setting base event before after (Err NoMemory) = after ≡ before

-- all that seats know is a beginning of the manager's history, which has as many events as the seats had accepted
pub record IsClosed (setting : Setting) (base : State) (manager : Journaled) (seats : List Knows) : Type 0 where
  pub list : History
  pub legal : IsLegal setting base list
  pub manager_is : IsManagerOf setting base manager list
  pub known : All (λ (k : Knows). IsPrefix k.list list) seats
  pub counted : sum_by (λ (k : Knows). k.accepted) seats ≡ length list
