-- The objects of a patch whose callbacks run while it is enabled: the loaded ones before the first whose pre-patch refuses.
use Rattle.std.specs.Prelude.{ℕ, ◌+◌, List, [], ◌∷◌, if◌then◌else◌}
use Rattle.klp_types.specs.Setting.{PatchObject}
use Rattle.klp_types.specs.Callbacks.{refuses}
use Rattle.klp_modules.specs.Names.{ModuleTable}
use Rattle.klp_model.specs.State.{is_flagged}
use Rattle.klp_catalog_text.specs.Plan.{PlanTarget}
use Rattle.klp_catalog.specs.Catalog.{patch_object}

-- the loaded ones of these targets before the first whose pre-patch refuses, each with its index in the patch; that of
-- the first target is `place`
abbrev pub acting : ModuleTable → ℕ → List PlanTarget → List (ℕ × PatchObject)
acting modules place [] = []
acting modules place (target ∷ targets) =
    let object = patch_object modules.names target in
    if is_flagged modules.loaded object.object
    then (if refuses (place, object) then [] else (place, object) ∷ acting modules (place + 1) targets)
    else acting modules (place + 1) targets
