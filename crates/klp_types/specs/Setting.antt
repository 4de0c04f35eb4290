-- What never changes while the manager runs: the image and the catalog's patches.
use Rattle.std.specs.Prelude.{ℕ, suc, Bool, false, ◌==◌, List, [], ◌∷◌, ◌++◌, Option, Some, None, option_map, map, if◌then◌else◌, slice_get}
use Rattle.klp_types.specs.declared.callback.Which.{Which}
use Rattle.klp_types.specs.Image.{Image}
use Rattle.klp_types.specs.Script.{Script}
use Rattle.klp_types.specs.Compatible.{SystemState}

-- a new function: the site whose function it replaces, if the image has it, and its own address
pub record Function : Type 0 where
  pub site : Option ℕ
  pub address : ℕ

-- a callback: when it runs, and its script
pub record Callback : Type 0 where
  pub which : Which
  pub script : Script

-- what a patch does to one object; it has at most one callback of each kind
pub record PatchObject : Type 0 where
  pub object : ℕ
  pub functions : List Function
  pub callbacks : List Callback

-- a patch: whether it replaces all older ones (a cumulative patch), its objects in order, and the system states
-- that it names
pub record Patch : Type 0 where
  pub replace : Bool
  pub objects : List PatchObject
  pub states : List SystemState

pub record Setting : Type 0 where
  pub image : Image
  pub patches : List Patch

-- the functions of all objects in order
abbrev pub all_functions : List PatchObject → List Function
all_functions [] = []
all_functions (object ∷ objects) = object.functions ++ all_functions objects

abbrev pub patch_objects : Option Patch → List PatchObject
patch_objects None = []
patch_objects (Some patch) = patch.objects

-- the objects of a patch of the catalog, in order; none if there is no such patch
abbrev pub objects_of : Setting → ℕ → List PatchObject
objects_of setting patch = patch_objects (slice_get setting.patches patch)

-- the functions of a patch of the catalog, counted from 0 over its objects in order
abbrev pub functions_of : Setting → ℕ → List Function
functions_of setting patch = all_functions (objects_of setting patch)

abbrev pub patch_replaces : Option Patch → Bool
patch_replaces None = false
patch_replaces (Some patch) = patch.replace

-- whether a patch of the catalog is cumulative
abbrev pub replaces : Setting → ℕ → Bool
replaces setting patch = patch_replaces (slice_get setting.patches patch)

abbrev pub patch_states : Option Patch → List SystemState
patch_states None = []
patch_states (Some patch) = patch.states

-- the system states that a patch of the catalog names; none if there is no such patch
abbrev pub named_states : Setting → ℕ → List SystemState
named_states setting patch = patch_states (slice_get setting.patches patch)

abbrev pub state_ids : Setting → ℕ → List ℕ
state_ids setting patch = map (λ (s : SystemState). s.id) (named_states setting patch)

abbrev pub is_at : Option ℕ → ℕ → Bool
is_at None site = false
is_at (Some own) site = own == site

-- the index in the list, from 0, of the function for this site
abbrev pub function_for : List Function → ℕ → Option ℕ
function_for [] site = None
function_for (function ∷ functions) site = if is_at function.site site then Some 0 else option_map suc (function_for functions site)
