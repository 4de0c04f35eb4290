-- What happens in a whole trace, however long it is. The journal plays no part: the rules alone accept an event or refuse it.
use Rattle.std.specs.Prelude.{◌≡◌, List}
use Rattle.klp_model.specs.declared.seen.Seen.{Seen}
use Rattle.klp_model.specs.declared.seen.Seen.TheVariants.{Event as Happens}
use Rattle.klp_model.specs.Observed.{events_of, IsHonestRun}
use Rattle.klp_manager_state.specs.Managed.{Managed, setting_of}
use Rattle.klp_manager_state.specs.Events.{after_event}
use Rattle.klp_core.specs.Events.{after_events}

-- the items are an honest observed run from the state before, and their events left this. An event that the rules refuse is an item of
-- the run that changes nothing
pub record LeadHonestly (before after : Managed) (items : List Seen) : Type 0 where
  pub honest : IsHonestRun (setting_of before) before.state items
  pub left : after ≡ after_events before (events_of items)

-- an item that was told changes nothing, but that the callbacks of an event have run
abbrev pub once_reported : Managed → Seen → Managed
once_reported before (Happens event) = record before { catalog = (after_event before event).catalog }
once_reported before item = before
