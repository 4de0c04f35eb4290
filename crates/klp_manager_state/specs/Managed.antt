-- A manager as contracts see it: what stays fixed, and the state.
use Rattle.std.specs.Prelude.{ℕ, Bool, List, Option}
use Rattle.klp_types.specs.declared.version.Entry.{Entry}
use Rattle.klp_types.specs.Callbacks.{Call}
use Rattle.klp_types.specs.Image.{Image}
use Rattle.klp_types.specs.Setting.{Setting}
use Rattle.klp_model.specs.declared.event.Event.{Event}
use Rattle.klp_model.specs.declared.event.Refusal.{Refusal}
use Rattle.klp_model.specs.Entries.{entries_of}
use Rattle.klp_model.specs.EventCalls.{lacks_room, may_run}
use Rattle.klp_model.specs.Refusals.{refusal}
use Rattle.klp_model.specs.State.{State}
use Rattle.klp_catalog.specs.Catalog.{Catalog, patches_of}
use Rattle.klp_manager_state.specs.declared.state.ManagerState.{ManagerState}

-- a manager as contracts see it
pub record Managed : Type 0 where
  pub image : Image
  pub catalog : Catalog
  pub state : State

-- the image, and the catalog's patches with the sites of their functions
abbrev pub setting_of : Managed → Setting
setting_of managed = record { image = managed.image; patches = patches_of managed.catalog }

-- what a manager and its catalog are to contracts
abbrev pub managed_of : ManagerState → Catalog → Managed
managed_of manager catalog = record {
  image = manager.sites.image;
  catalog = catalog;
  state = record {
    loaded = manager.sites.loaded;
    world = manager.world;
    moving = manager.moving;
    pinned = manager.pinned;
    tasks = manager.tasks;
  };
}

-- the setting and the state, in the model's terms: what stays, and what events change
abbrev pub setting_in : ManagerState → Catalog → Setting
setting_in manager catalog = setting_of (managed_of manager catalog)

abbrev pub state_in : ManagerState → Catalog → State
state_in manager catalog = (managed_of manager catalog).state

-- why an event is refused, if it is
abbrev pub refused_in : ManagerState → Catalog → Event → Option Refusal
refused_in manager catalog event = refusal (setting_in manager catalog) (state_in manager catalog) event

-- the callbacks that an event may run
abbrev pub may_run_in : ManagerState → Catalog → Event → List Call
may_run_in manager catalog event = may_run (setting_in manager catalog) (state_in manager catalog) event

-- whether there may be no room for the shadow variables that these callbacks add
abbrev pub lacks_room_in : ManagerState → Catalog → Event → Bool
lacks_room_in manager catalog event = lacks_room (setting_in manager catalog) (state_in manager catalog) event

-- the entries that a site has by the state, newest first
abbrev pub entries_in : ManagerState → Catalog → ℕ → List Entry
entries_in manager catalog site = entries_of (setting_in manager catalog) (state_in manager catalog) site
