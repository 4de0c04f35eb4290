-- The manager and the board at the opening.
use Rattle.std.specs.Prelude.{◌≡◌, List, [], Option}
use Rattle.logbook.specs.Pages.{Book}
use Rattle.klp_types.specs.Setting.{Setting}
use Rattle.klp_model.specs.State.{State}
use Rattle.klp_manager_state.specs.Managed.{setting_of}
use Rattle.klp_core.specs.Journaled.{Journaled}
use Rattle.klp_live.specs.Seats.{IsOne}
use Rattle.klp_live.specs.Shown.{IsTable}
use Rattle.klp_live.specs.declared.published.Published.{Published}
use Rattle.klp_live.specs.declared.published.News.{News}
use Rattle.klp_live.specs.declared.published.View.{View}

-- a manager of this setting with an empty journal
pub record IsFresh (setting : Setting) (base : State) (manager : Journaled) : Type 0 where
  pub setting_is : setting_of manager.managed ≡ setting
  pub base_is : manager.base ≡ base
  pub empty : manager.groups ≡ []

-- The table of the empty history is published, nothing waits to be published, and the writer knows the empty history.
pub record IsEmptyBoard (setting : Setting) (base : State) (book : Book) (shown : Published) (pending : List (Option News)) (known : View) : Type 0 where
  pub table : IsTable setting base shown
  pub empty : shown.seen.log ≡ []
  pub book_is : shown.seen.book ≡ book
  pub done : pending ≡ []
  pub one : IsOne book known
