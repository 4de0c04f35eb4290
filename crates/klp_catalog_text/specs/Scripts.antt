-- The scripts of a plan's callbacks, in the order of the text.
use Rattle.std.specs.Prelude.{List, [], ◌∷◌, ◌++◌, map}
use Rattle.klp_types.specs.Script.{Script}
use Rattle.klp_catalog_text.specs.Plan.{PlanTarget, PlanPatch}
use Rattle.klp_types.specs.Setting.{Callback as PlanCallback}

abbrev pub scripts_of_callbacks : List PlanCallback → List Script
scripts_of_callbacks callbacks = map (λ (c : PlanCallback). c.script) callbacks

abbrev pub scripts_of_target : PlanTarget → List Script
scripts_of_target target = scripts_of_callbacks target.callbacks

-- the scripts of a patch, over its targets
abbrev pub scripts_of_targets : List PlanTarget → List Script
scripts_of_targets [] = []
scripts_of_targets (target ∷ targets) = scripts_of_target target ++ scripts_of_targets targets

-- the scripts of all patches
abbrev pub scripts_of : List PlanPatch → List Script
scripts_of [] = []
scripts_of (patch ∷ patches) = scripts_of_targets patch.targets ++ scripts_of patches
