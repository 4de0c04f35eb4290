-- What the book keeps, and what it does with an event.
use Rattle.std.specs.Prelude.{◌≡◌, ◌≢◌, ◌+◌, false, List, [], ◌∷◌, ◌++◌, length, Ok, Err}
use Rattle.std.specs.List.{All}
use mathlib.Core.List.{IsPrefix}
use Rattle.logbook.specs.Pages.{Book}
use Rattle.klp_types.specs.Setting.{Setting}
use Rattle.klp_model.specs.State.{State}
use Rattle.klp_model.specs.declared.event.Event.{Event}
use Rattle.klp_model.specs.declared.event.Reply.{Reply}
use Rattle.klp_model.specs.declared.event.Refusal.{Refusal}
use Rattle.klp_model.specs.declared.event.Refusal.TheVariants.{JournalFull}
use Rattle.klp_model.specs.Legal.{History, IsLegal, state_after_history}
use Rattle.klp_model.specs.Run.{answer}
use Rattle.klp_journal.specs.Journal.{Group, has_room}
use Rattle.klp_manager_state.specs.Events.{after_event}
use Rattle.klp_manager_state.specs.Managed.{setting_of}
use Rattle.klp_core.specs.Journaled.{Journaled, IsSmall, history_in}
use Rattle.klp_core.specs.Taking.{IsTaken}
use Rattle.klp_live.specs.Boards.{OnBoard}
use Rattle.klp_live.specs.Shown.{IsTable}
use Rattle.klp_live.specs.Seats.{Knows, ReceiptValue}
use Rattle.klp_live.specs.declared.refusal.LiveRefusal.{LiveRefusal}
use Rattle.klp_live.specs.declared.refusal.LiveRefusal.TheVariants.{Refused, NoMemory}

-- a book, as contracts see it: its history and its manager
pub record Booked : Type 0 where
  pub list : History
  pub manager : Journaled

-- the manager has the base of the history, and its groups have the events and replies of the history
pub record IsManagerOf (setting : Setting) (base : State) (manager : Journaled) (list : History) : Type 0 where
  pub setting_is : setting_of manager.managed ≡ setting
  pub base_is : manager.base ≡ base
  pub groups : history_in manager.groups ≡ list

-- the table of the history is published, and nothing waits to be published
pub record IsShown (setting : Setting) (base : State) (book : Book) (board : OnBoard) (list : History) : Type 0 where
  pub table : IsTable setting base board.value
  pub list_is : board.value.seen.log ≡ list
  pub book_is : board.value.seen.book ≡ book
  pub done : board.pending ≡ []

-- an event was accepted: one row was appended and published, with the next number
pub record IsAdmitted (setting : Setting) (base : State) (event : Event) (old new : Booked) (before after : Knows) (receipt : ReceiptValue) : Type 0 where
  pub legal : IsLegal setting base new.list
  pub answered : answer setting (state_after_history setting base old.list) event ≡ Ok receipt.reply
  pub taken : IsTaken old.manager new.manager event (Ok receipt.reply)
  pub list : new.list ≡ old.list ++ (event, receipt.reply) ∷ []
  pub knew : IsPrefix before.list old.list
  pub number : receipt.number ≡ length old.list + 1
  pub event_is : receipt.event ≡ event
  pub receipt_list : receipt.list ≡ new.list
  pub knows : after.list ≡ new.list
  pub counts : after.accepted ≡ before.accepted + 1

-- The model accepts the event, but a journal of this history may have no room: some records, as many as its events
-- leave at most, would fill it.
pub record FindsNoRoom (setting : Setting) (base : State) (list : History) (event : Event) : Type 0 where
  pub reply : Reply
  pub accepted : answer setting (state_after_history setting base list) event ≡ Ok reply
  pub groups : List Group
  pub events : history_in groups ≡ list
  pub small : All IsSmall groups
  pub full : has_room groups ≡ false

-- an event was refused: nothing has changed except that the seat knows the history
pub record IsTurnedAway (setting : Setting) (base : State) (event : Event) (old new : Booked) (before after : Knows) (refusal : Refusal) : Type 0 where
  pub legal : IsLegal setting base new.list
  pub taken : IsTaken old.manager new.manager event (Err refusal)
  pub answered : refusal ≢ JournalFull → answer setting (state_after_history setting base old.list) event ≡ Err refusal
  pub full : refusal ≡ JournalFull → FindsNoRoom setting base old.list event
  pub same : new ≡ old
  pub knew : IsPrefix before.list old.list
  pub knows : after.list ≡ old.list
  pub counts : after.accepted ≡ before.accepted

-- An event was taken back, since there was no memory to publish it. The manager had accepted it, and its callbacks ran
-- once, so their counts have grown. Nothing else has changed.
pub record IsTakenBack (setting : Setting) (base : State) (event : Event) (old new : Booked) (before after : Knows) : Type 0 where
  pub legal : IsLegal setting base new.list
  pub reply : Reply
  pub accepted : answer setting (state_after_history setting base old.list) event ≡ Ok reply
  pub ran : new.manager.managed.catalog ≡ (after_event old.manager.managed event).catalog
  pub list : new.list ≡ old.list
  pub state : new.manager.managed.state ≡ old.manager.managed.state
  pub image : new.manager.managed.image ≡ old.manager.managed.image
  pub base_is : new.manager.base ≡ old.manager.base
  pub groups : new.manager.groups ≡ old.manager.groups
  pub knew : IsPrefix before.list old.list
  pub knows : after ≡ before

-- what becomes of an event that isn't admitted: the manager refused it, or there was no memory to publish it
abbrev pub IsRefused : Setting → State → Event → Booked → Booked → Knows → Knows → LiveRefusal → Type 0
IsRefused setting base event old new before after (Refused refusal) = IsTurnedAway setting base event old new before after refusal
IsRefused setting base event old new before after NoMemory = IsTakenBack setting base event old new before after
