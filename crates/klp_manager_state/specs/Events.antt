-- What events answer, and what they leave.
use Rattle.std.specs.Prelude.{◌≡◌, Result}
use Rattle.klp_model.specs.declared.event.Event.{Event}
use Rattle.klp_model.specs.declared.event.Reply.{Reply}
use Rattle.klp_model.specs.declared.event.Refusal.{Refusal}
use Rattle.klp_model.specs.EventCalls.{calls}
use Rattle.klp_model.specs.Step.{accepted, callbacks_of}
use Rattle.klp_model.specs.Run.{answer, next}
use Rattle.klp_catalog.specs.Catalog.{Catalog}
use Rattle.klp_catalog.specs.Runs.{after_runs}
use Rattle.klp_manager_state.specs.declared.state.ManagerState.{ManagerState}
use Rattle.klp_manager_state.specs.Managed.{Managed, setting_of, managed_of}
use Rattle.klp_manager_state.specs.Invariant.{Invariant}

-- what an event leaves: the next state, and one more run counted for each callback that ran
abbrev pub after_event : Managed → Event → Managed
after_event managed event = record managed {
  catalog = after_runs managed.catalog (callbacks_of (setting_of managed) managed.state event);
  state = next (setting_of managed) managed.state event;
}

-- what an event leaves if nothing refuses it
abbrev pub after_accepted : Managed → Event → Managed
after_accepted managed event = record managed {
  catalog = after_runs managed.catalog (calls (setting_of managed) managed.state event);
  state = (accepted (setting_of managed) managed.state event).1;
}

-- an event was taken: it has the answer that the model says, and left what the model says
pub record Takes (before after : Managed) (event : Event) (result : Result Reply Refusal) : Type 0 where
  pub answered : result ≡ answer (setting_of before) before.state event
  pub left : after ≡ after_event before event

-- an event that nothing refuses was taken
pub record Accepts (before after : Managed) (event : Event) (reply : Reply) : Type 0 where
  pub answered : reply ≡ (accepted (setting_of before) before.state event).0
  pub left : after ≡ after_accepted before event

-- a manager took an event, and still keeps its invariant
pub record TakesEvent (before after : ManagerState) (catalog_before catalog_after : Catalog) (event : Event) (result : Result Reply Refusal) : Type 0 where
  pub takes : Takes (managed_of before catalog_before) (managed_of after catalog_after) event result
  pub kept : Invariant after catalog_after

-- a manager took an event that nothing refuses, and still keeps its invariant
pub record AcceptsEvent (before after : ManagerState) (catalog_before catalog_after : Catalog) (event : Event) (reply : Reply) : Type 0 where
  pub accepts : Accepts (managed_of before catalog_before) (managed_of after catalog_after) event reply
  pub kept : Invariant after catalog_after

-- a manager took an event that needs no callback and no patch, so that any catalog will do
abbrev pub TakesEventAlone : ManagerState → ManagerState → Event → Result Reply Refusal → Type 0
TakesEventAlone before after event result = (catalog : Catalog) → Invariant before catalog → TakesEvent before after catalog catalog event result
