-- What a catalog stores of its patches, and of the objects.
use Rattle.std.specs.Prelude.{◌≡◌, ℕ, ◌+◌, Bool, false, pos, List, [], ◌∷◌, length, map, take, find, reverse, position, slice_get, slice_index_or, is_some, Option, Some, None, option_map, option_and_then}
use Rattle.klp_types.specs.declared.callback.Which.{Which}
use Rattle.klp_types.specs.Setting.{Callback}
use Rattle.klp_types.specs.Callbacks.{is_kind}
use Rattle.klp_types.specs.Script.{Script}
use Rattle.klp_types.specs.Compatible.{SystemState, version_among}
use Rattle.klp_modules.specs.Names.{ObjectNames}
use Rattle.klp_catalog_text.specs.Plan.{PlanFunction, PlanTarget, PlanPatch}
use Rattle.klp_catalog_text.specs.Scripts.{scripts_of_targets}
use Rattle.klp_catalog.specs.Catalog.{CatalogFunction, functions_of_patch, some_same_site}
use Rattle.klp_catalog.specs.Limits.{AreWithin}
use Rattle.klp_catalog.specs.Runs.{HasCounts}

-- an object of a patch: the number of its first callback among all of the catalog, and the kinds of its callbacks
pub record StoredTarget : Type 0 where
  pub object : ℕ
  pub functions : List PlanFunction
  pub first : ℕ
  pub kinds : List Which

-- a patch, with the new functions for all of its objects
pub record StoredPatch : Type 0 where
  pub name : List ℕ
  pub replace : Bool
  pub targets : List StoredTarget
  pub functions : List CatalogFunction
  pub states : List SystemState

-- ---- from what is stored to the patches of a plan, given the scripts of all callbacks in the order of the text

-- the script of the callback with this number
abbrev pub script_number : List Script → ℕ → Script
script_number scripts n = slice_index_or scripts n (record { edits = []; status = pos 0 })

-- callbacks of these kinds, numbered from n on
abbrev pub callbacks_from : List Script → ℕ → List Which → List Callback
callbacks_from scripts n [] = []
callbacks_from scripts n (which ∷ kinds) = record { which = which; script = script_number scripts n } ∷ callbacks_from scripts (n + 1) kinds

abbrev pub target_in : List Script → StoredTarget → PlanTarget
target_in scripts target =
    record { object = target.object; functions = target.functions; callbacks = callbacks_from scripts target.first target.kinds }

abbrev pub patch_in : List Script → StoredPatch → PlanPatch
patch_in scripts patch =
    record { name = patch.name; replace = patch.replace; targets = map (target_in scripts) patch.targets; states = patch.states }

abbrev pub patches_in : List Script → List StoredPatch → List PlanPatch
patches_in scripts stored = map (patch_in scripts) stored

-- ---- from the patches of a plan to what is stored

-- each item, made with its first number; an item takes as many numbers as its size
abbrev pub placed : {A B : Type 0} → (ℕ → A → B) → (A → ℕ) → ℕ → List A → List B
placed make size n [] = []
placed make size n (item ∷ items) = make n item ∷ placed make size (n + size item) items

abbrev pub target_size : PlanTarget → ℕ
target_size target = length target.callbacks

abbrev pub patch_size : PlanPatch → ℕ
patch_size patch = length (scripts_of_targets patch.targets)

abbrev pub stored_target : ℕ → PlanTarget → StoredTarget
stored_target first target = record {
  object = target.object;
  functions = target.functions;
  first = first;
  kinds = map (λ (c : Callback). c.which) target.callbacks;
}

abbrev pub stored_targets : ℕ → List PlanTarget → List StoredTarget
stored_targets first targets = placed stored_target target_size first targets

abbrev pub functions_of_plan : List ObjectNames → PlanPatch → List CatalogFunction
functions_of_plan names patch = functions_of_patch names patch.targets

abbrev pub stored_patch : List ObjectNames → ℕ → PlanPatch → StoredPatch
stored_patch names first patch = record {
  name = patch.name;
  replace = patch.replace;
  targets = stored_targets first patch.targets;
  functions = functions_of_plan names patch;
  states = patch.states;
}

abbrev pub stored_patches : List ObjectNames → ℕ → List PlanPatch → List StoredPatch
stored_patches names first patches = placed (stored_patch names) patch_size first patches

-- ---- look-ups

-- the number of an object's callback of this kind among all callbacks of the catalog, if it has one
abbrev pub number_in : Which → StoredTarget → Option ℕ
number_in which target = option_map (λ place. target.first + place) (position (λ (w : Which). is_kind w which) target.kinds)

-- the objects of a patch; none if there is no such patch. The next three are alike
abbrev pub targets_at : Option StoredPatch → List StoredTarget
targets_at None = []
targets_at (Some patch) = patch.targets

abbrev pub stored_functions : Option StoredPatch → List CatalogFunction
stored_functions None = []
stored_functions (Some patch) = patch.functions

abbrev pub stored_states : Option StoredPatch → List SystemState
stored_states None = []
stored_states (Some patch) = patch.states

abbrev pub stored_replaces : Option StoredPatch → Bool
stored_replaces None = false
stored_replaces (Some patch) = patch.replace

abbrev pub states_at : List StoredPatch → ℕ → List SystemState
states_at stored patch = stored_states (slice_get stored patch)

-- the number of the callback of this kind that a patch has for the object at this index
abbrev pub number_of : List StoredPatch → ℕ → ℕ → Which → Option ℕ
number_of stored patch place which = option_and_then (number_in which) (slice_get (targets_at (slice_get stored patch)) place)

-- the newest of the installed patches that names the state
abbrev pub newest_naming : List StoredPatch → ℕ → List ℕ → Option ℕ
newest_naming stored id installed = find (λ p. is_some (version_among id (states_at stored p))) (reverse installed)

abbrev pub symbol_count : ObjectNames → ℕ
symbol_count object = length object.symbols

-- what is stored agrees with the names of the objects, which only contracts know, and with these scripts and counts
-- of callbacks
pub record IsStored (names : List ObjectNames) (symbols : List ℕ) (stored : List StoredPatch) (scripts : List Script) (counts : List ℕ) : Type 0 where
  -- only as many objects as an `ObjId` can name
  pub sizes : symbols ≡ take 256 (map symbol_count names)
  pub kept : stored ≡ stored_patches names 0 (patches_in scripts stored)
  pub few : AreWithin (patches_in scripts stored)
  pub apart : some_same_site names (patches_in scripts stored) ≡ false
  pub counted : HasCounts (patches_in scripts stored) counts
