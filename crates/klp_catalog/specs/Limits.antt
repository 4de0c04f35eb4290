-- The limits that a catalog's patches keep to, and what no patch has twice.
use Rattle.std.specs.Prelude.{◌≡◌, ◌≤◌, false, List, length}
use Rattle.std.specs.List.{AllByRecursion}
use Rattle.klp_types.specs.declared.limits.TheConstants.{MAX_PATCHES, MAX_TARGETS, MAX_FUNCTIONS, MAX_STATES}
use Rattle.klp_catalog_text.specs.Plan.{PlanTarget, PlanPatch}
use Rattle.klp_catalog_text.specs.PlanParts.{function_count}
use Rattle.klp_catalog_text.specs.Limits.{has_same, callback_number, target_number, state_number}

-- an object of a patch has at most one callback of each of the four kinds
pub record HasOneOfEach (target : PlanTarget) : Type 0 where
  pub few_callbacks : length target.callbacks ≤ 4
  pub distinct : has_same callback_number target.callbacks ≡ false

pub record IsWithin (patch : PlanPatch) : Type 0 where
  pub few_targets : length patch.targets ≤ MAX_TARGETS
  pub distinct_targets : has_same target_number patch.targets ≡ false
  pub one_of_each : AllByRecursion HasOneOfEach patch.targets
  pub few_functions : function_count patch.targets ≤ MAX_FUNCTIONS
  pub few_states : length patch.states ≤ MAX_STATES
  pub distinct_states : has_same state_number patch.states ≡ false

pub record AreWithin (patches : List PlanPatch) : Type 0 where
  pub few_patches : length patches ≤ MAX_PATCHES
  pub each_within : AllByRecursion IsWithin patches
