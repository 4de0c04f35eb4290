-- The functions of a catalog stand with the objects of their sites.
use Rattle.std.proofs.Common.{◌≡◌, ℕ, List, [], ◌∷◌, map, Option, Some, None, refl}
use Rattle.klp_types.specs.Image.{object_of}
use Rattle.klp_types.specs.Setting.{Setting}
use Rattle.klp_model.specs.InPlace.{IsOfObject, AreOfObject, ObjectsInPlace, PatchesInPlace}
use Rattle.klp_modules.specs.Names.{ObjectNames}
use Rattle.klp_catalog_text.specs.Plan.{PlanFunction, PlanTarget, PlanPatch}
use Rattle.klp_catalog.specs.Catalog.{site_of, resolved_function, setting_function, patch_object, setting_patch}

-- where the site that a name and a position pick in an object always lies in that object
module _ (setting : Setting) (names : List ObjectNames)
    (lies : (object : ℕ) (function : PlanFunction) (site : ℕ) → site_of names object function ≡ Some site → object_of setting.image.objects site ≡ Some object) where
  site_placed : (object : ℕ) (own : Option ℕ) → ((site : ℕ) → own ≡ Some site → object_of setting.image.objects site ≡ Some object) → IsOfObject setting object own
  site_placed object None there = tt
  site_placed object (Some site) there = there site refl

  functions_placed : (object : ℕ) (functions : List PlanFunction) → AreOfObject setting object (map setting_function (map (resolved_function names object) functions))
  functions_placed object [] = tt
  functions_placed object (function ∷ functions) = (site_placed object (site_of names object function) (lies object function), functions_placed object functions)

  objects_placed : (targets : List PlanTarget) → ObjectsInPlace setting (map (patch_object names) targets)
  objects_placed [] = tt
  objects_placed (target ∷ targets) = (functions_placed target.object target.functions, objects_placed targets)

  pub patches_placed : (patches : List PlanPatch) → PatchesInPlace setting (map (setting_patch names) patches)
  patches_placed [] = tt
  patches_placed (patch ∷ patches) = (objects_placed patch.targets, patches_placed patches)
