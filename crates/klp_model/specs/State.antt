-- The state: which objects are loaded, what is installed, the shadow variables, the transition, the pinned patches,
-- and the tasks. Everything else is derived from it.
use Rattle.std.specs.Prelude.{ℕ, Bool, false, ◌==◌, List, map, Option, is_some, slice_index_or}
use Rattle.std.specs.List.{list_any}
use Rattle.klp_types.specs.declared.version.Transition.{Transition}
use Rattle.klp_types.specs.World.{Installed, World}
use Rattle.klp_model.specs.Task.{Tasks}

pub record State : Type 0 where
  -- for each object of the image, whether it is loaded
  pub loaded : List Bool
  -- the installed patches with the values of their system states, and the shadow variables
  pub world : World
  -- the patch in transition, if there is one
  pub moving : Option Transition
  -- for each patch of the catalog, whether it is pinned
  pub pinned : List Bool
  pub tasks : Tasks

abbrev pub is_flagged : List Bool → ℕ → Bool
is_flagged flags number = slice_index_or flags number false

-- whether the image has the object and it is loaded
abbrev pub is_loaded : State → ℕ → Bool
is_loaded state object = is_flagged state.loaded object

-- the numbers of the installed patches, oldest first
abbrev pub installed_patches : State → List ℕ
installed_patches state = map (λ (i : Installed). i.patch) state.world.installed

abbrev pub is_among : ℕ → List Installed → Bool
is_among patch installed = list_any (λ (i : Installed). i.patch == patch) installed

abbrev pub is_installed : State → ℕ → Bool
is_installed state patch = is_among patch state.world.installed

abbrev pub is_pinned : State → ℕ → Bool
is_pinned state patch = is_flagged state.pinned patch

abbrev pub is_moving : State → Bool
is_moving state = is_some state.moving

-- the same state with another world
abbrev pub with_world : State → World → State
with_world state world = record state { world = world }

-- the same state with other tasks
abbrev pub with_tasks : State → Tasks → State
with_tasks state tasks = record state { tasks = tasks }
