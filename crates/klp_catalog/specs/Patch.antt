-- What is known of the patch with a number. It is looked up once and then asked.
use Rattle.std.specs.Prelude.{◌≡◌, ℕ, ◌<◌, ◌≤◌, ◌==◌, false, List, [], ◌∷◌, ◌++◌, length, map, position, replicate}
use Rattle.std.specs.List.{All, count_by}
use Rattle.klp_types.specs.declared.limits.TheConstants.{MAX_TARGETS, MAX_FUNCTIONS, MAX_STATES}
use Rattle.klp_types.specs.declared.callback.Which.{Which}
use Rattle.klp_types.specs.Setting.{PatchObject, Callback, all_functions}
use Rattle.klp_catalog.specs.Catalog.{CatalogFunction, Catalog, catalog_functions, setting_function, has_same_site}
use Rattle.klp_catalog.specs.States.{states_of, is_cumulative}
use Rattle.klp_catalog.specs.Runs.{objects_at, place_of}
use Rattle.klp_catalog.specs.Assembled.{LiesInObject}
use Rattle.klp_catalog.specs.Stored.{StoredTarget, StoredPatch}

-- the object of each function, if the functions are grouped by object, in the order of the objects
abbrev pub objects_in_order : List StoredTarget → List ℕ
objects_in_order [] = []
objects_in_order (target ∷ targets) = replicate (length target.functions) target.object ++ objects_in_order targets

-- the kinds of an object's callbacks, in order
abbrev pub kinds_of : PatchObject → List Which
kinds_of object = map (λ (c : Callback). c.which) object.callbacks

-- `patch` is the stored patch with this number
pub record IsPatch (catalog : Catalog) (number : ℕ) (patch : StoredPatch) : Type 0 where
  pub there : number < length catalog.patches
  pub replaces : patch.replace ≡ is_cumulative catalog number
  pub functions : patch.functions ≡ catalog_functions catalog number
  -- the functions of one object are consecutive, so walking over the objects visits the functions in order
  pub in_order : map (λ (f : CatalogFunction). f.object) patch.functions ≡ objects_in_order patch.targets
  pub states : patch.states ≡ states_of catalog number
  -- the same objects in the same order, so an index in one list is the index in the other
  pub objects : map (λ (t : StoredTarget). t.object) patch.targets ≡ map (λ (o : PatchObject). o.object) (objects_at catalog number)
  -- the kinds of the callbacks of each object
  pub kinds : map (λ (t : StoredTarget). t.kinds) patch.targets ≡ map kinds_of (objects_at catalog number)
  pub places : (object : ℕ) → position (λ (t : StoredTarget). t.object == object) patch.targets ≡ place_of object (objects_at catalog number)

-- there is no patch with this number: it replaces nothing, changes nothing and names no state
pub record IsAbsent (catalog : Catalog) (number : ℕ) : Type 0 where
  pub past : length catalog.patches ≤ number
  pub replaces : is_cumulative catalog number ≡ false
  pub functions : catalog_functions catalog number ≡ []
  pub states : states_of catalog number ≡ []
  pub objects : objects_at catalog number ≡ []

-- the limits that each patch of a catalog keeps to; they hold too if there is no patch with this number
pub record KeepsTo (catalog : Catalog) (number : ℕ) : Type 0 where
  -- what the manager relies on when it puts the functions' entries on sites
  pub setting : map setting_function (catalog_functions catalog number) ≡ all_functions (objects_at catalog number)
  pub in_object : All (LiesInObject catalog.names) (catalog_functions catalog number)
  pub distinct : has_same_site (catalog_functions catalog number) ≡ false
  pub few_functions : length (catalog_functions catalog number) ≤ MAX_FUNCTIONS
  pub few_states : length (states_of catalog number) ≤ MAX_STATES
  pub few_objects : length (objects_at catalog number) ≤ MAX_TARGETS
  -- no object occurs twice, so walking over the indexes visits each object once
  pub once : (object : ℕ) → count_by (λ (o : PatchObject). o.object == object) (objects_at catalog number) ≤ 1
