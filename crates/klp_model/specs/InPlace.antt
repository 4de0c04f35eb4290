-- A catalog in which each function is listed with the object of its site.
use Rattle.std.specs.Prelude.{◌≡◌, ℕ, List, [], ◌∷◌, Option, Some, None}
use Rattle.klp_types.specs.Image.{object_of}
use Rattle.klp_types.specs.Setting.{Setting, Function, PatchObject, Patch}

-- a function that a patch has for an object is for a site of that object, or for none
abbrev pub IsOfObject : Setting → ℕ → Option ℕ → Type 0
IsOfObject setting object None = Unit {0}
IsOfObject setting object (Some site) = object_of setting.image.objects site ≡ Some object

abbrev pub AreOfObject : Setting → ℕ → List Function → Type 0
AreOfObject setting object [] = Unit {0}
AreOfObject setting object (function ∷ functions) = IsOfObject setting object function.site × AreOfObject setting object functions

abbrev pub ObjectsInPlace : Setting → List PatchObject → Type 0
ObjectsInPlace setting [] = Unit {0}
ObjectsInPlace setting (object ∷ objects) = AreOfObject setting object.object object.functions × ObjectsInPlace setting objects

abbrev pub PatchesInPlace : Setting → List Patch → Type 0
PatchesInPlace setting [] = Unit {0}
PatchesInPlace setting (patch ∷ patches) = ObjectsInPlace setting patch.objects × PatchesInPlace setting patches

-- each function of the catalog that names a site is listed with the object of that site
abbrev pub IsInPlace : Setting → Type 0
IsInPlace setting = PatchesInPlace setting setting.patches
