-- The limits that patches keep to, and what no patch has twice.
use Rattle.std.specs.Prelude.{◌≡◌, ℕ, ◌≤◌, ◌==◌, ◌||◌, Bool, false, List, [], ◌∷◌, length}
use Rattle.std.specs.List.{AllByRecursion, list_any}
use Rattle.klp_types.specs.Compatible.{SystemState}
use Rattle.klp_types.specs.declared.limits.TheConstants.{MAX_EDITS, MAX_PATCHES, MAX_STATES}
use Rattle.klp_types.specs.declared.limits.TheConstants.{MAX_TARGETS, MAX_FUNCTIONS}
use Rattle.klp_catalog_text.specs.Plan.{PlanTarget, PlanPatch}
use Rattle.klp_types.specs.Setting.{Callback as PlanCallback}
use Rattle.klp_catalog_text.specs.PlanParts.{function_count, which_number}

-- whether two items have the same number
abbrev pub has_same : {A : Type 0} → (A → ℕ) → List A → Bool
has_same number [] = false
has_same number (x ∷ xs) = list_any (λ y. number y == number x) xs || has_same number xs

abbrev pub callback_number : PlanCallback → ℕ
callback_number callback = which_number callback.which

abbrev pub state_number : SystemState → ℕ
state_number state = state.id

abbrev pub target_number : PlanTarget → ℕ
target_number target = target.object

abbrev pub HasFewEdits : PlanCallback → Type 0
HasFewEdits callback = length callback.script.edits ≤ MAX_EDITS

-- a target has at most one callback of each of the four kinds, and each has few edits
pub record HasOneEach (target : PlanTarget) : Type 0 where
  pub few_callbacks : length target.callbacks ≤ 4
  pub distinct : has_same callback_number target.callbacks ≡ false
  pub few_edits : AllByRecursion HasFewEdits target.callbacks

pub record IsSmall (patch : PlanPatch) : Type 0 where
  pub few_targets : length patch.targets ≤ MAX_TARGETS
  pub distinct_targets : has_same target_number patch.targets ≡ false
  pub few_functions : function_count patch.targets ≤ MAX_FUNCTIONS
  pub one_each : AllByRecursion HasOneEach patch.targets
  pub few_states : length patch.states ≤ MAX_STATES
  pub distinct_states : has_same state_number patch.states ≡ false

pub record AreFew (patches : List PlanPatch) : Type 0 where
  pub few_patches : length patches ≤ MAX_PATCHES
  pub each_small : AllByRecursion IsSmall patches
