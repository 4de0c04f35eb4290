-- What a draft stores in addition: counts.
use Rattle.std.specs.Prelude.{◌≡◌, ℕ, ◌≤◌, List, length}
use Rattle.klp_types.specs.Image.{Object, symbols_of}
use Rattle.klp_types.specs.declared.limits.TheConstants.{MAX_OBJECTS}
use Rattle.klp_catalog_text.specs.Plan.{PlanPatch}
use Rattle.klp_catalog_text.specs.PlanParts.{last_of, targets_of, function_count}
use Rattle.klp_catalog_text.specs.Limits.{AreFew}
use Rattle.klp_catalog_text.specs.Within.{AreTargetsWithin}

pub record IsKept (objects : List Object) (symbols : ℕ) (patches : List PlanPatch) (functions : ℕ) : Type 0 where
  pub symbol_count : symbols ≡ length (symbols_of objects)
  -- of the last patch
  pub count_of_functions : functions ≡ function_count (targets_of (last_of patches))
  pub few_objects : length objects ≤ MAX_OBJECTS
  pub few_patches : AreFew patches
  pub targets_within : AreTargetsWithin (length objects) patches
