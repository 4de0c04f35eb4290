-- What lists of events leave.
use Rattle.std.specs.Prelude.{◌≡◌, ℕ, ◌&&◌, Bool, List, Some, is_none, option_map}
use Rattle.klp_types.specs.declared.callback.Which.{Which}
use Rattle.klp_types.specs.Callbacks.{Call}
use Rattle.klp_model.specs.declared.event.Event.{Event}
use Rattle.klp_types.specs.Setting.{Setting}
use Rattle.klp_model.specs.EventCalls.{may_run}
use Rattle.klp_model.specs.Refusals.{refusal}
use Rattle.klp_model.specs.Run.{run, callbacks_of_run}
use Rattle.klp_model.specs.State.{State}
use Rattle.klp_catalog.specs.Catalog.{Catalog}
use Rattle.klp_catalog.specs.Counts.{times, grown}
use Rattle.klp_catalog.specs.Runs.{objects_at, place_of, after_runs, callback_runs}
use Rattle.klp_patch.specs.Calls.{are_some}
use Rattle.klp_manager_state.specs.Managed.{Managed, setting_of}

-- what these events leave, taken one after another
abbrev pub after_events : Managed → List Event → Managed
after_events managed events = record managed {
  catalog = after_runs managed.catalog (callbacks_of_run (setting_of managed) managed.state events);
  state = run (setting_of managed) managed.state events;
}

-- Each callback's count has grown by the number of its runs in this list, up to the greatest number of 64 bits, and no
-- other count has changed.
abbrev pub AreCounted : Catalog → Catalog → List Call → Type 0
AreCounted before after runs = (patch object place : ℕ) (which : Which)
    → place_of object (objects_at before patch) ≡ Some place
    → callback_runs after patch object which ≡ option_map (grown (times patch place which runs)) (callback_runs before patch object which)

-- Whether an event taken now might run a callback: a callback exists among those that it asks room for, and nothing
-- refuses it.
abbrev pub may_run_some : Setting → State → Event → Bool
may_run_some setting state event = are_some (may_run setting state event) && is_none (refusal setting state event)
