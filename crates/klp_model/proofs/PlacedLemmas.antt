-- A version lies in the object of its site.
use Rattle.std.proofs.Common.{◌≡◌, ◌⊎◌, inl, inr, ℕ, zero, suc, ◌+◌, ◌-◌, ◌<◌, ◌≤◌, ℤ, pos, negsuc, Bool, true, false, List, [], ◌∷◌, ◌++◌, reverse, length, Option, Some, None, refl, sym, ap, subst, ◌∙◌, arith}
use Rattle.std.specs.Prelude.{if◌then◌else◌, option_map, slice_get}
use Rattle.std.proofs.lemmas.Bool.{eqb-true, lt-ltb, le-ltb}
use Rattle.klp_types.specs.declared.version.Version.{Version}
use Rattle.klp_types.specs.declared.version.Transition.{Transition}
use Rattle.klp_types.specs.Image.{object_of}
use Rattle.klp_types.specs.Setting.{Setting, Function, PatchObject, Patch, all_functions, patch_objects, objects_of, functions_of, function_for, is_at, replaces}
use Rattle.klp_types.specs.Pick.{is_unpatched}
use Rattle.klp_model.specs.Frames.{object_of_function, object_of_version}
use Rattle.klp_model.specs.Allowed.{AreDistinct}
use Rattle.klp_model.specs.InPlace.{IsOfObject, AreOfObject, ObjectsInPlace, PatchesInPlace, IsInPlace}
use Rattle.klp_model.specs.Versions.{version_in, chosen, others}
use Rattle.klp_model.proofs.VersionLemmas.{version_for}
use Rattle.klp_model.proofs.PickLemmas.{at_rest_in, patched_in, unpatched_in}

some_is : {A : Type 0} (a b : A) → Some a ≡ Some b → a ≡ b
some_is a b e = cc

module _ (setting : Setting) (site : ℕ) where
  abbrev home : Option ℕ
  home = object_of setting.image.objects site

  own_site : (object : ℕ) (own : Option ℕ) → IsOfObject setting object own → is_at own site ≡ true → home ≡ Some object
  own_site object None place e = cc
  own_site object (Some other) place e = subst (λ s. object_of setting.image.objects s ≡ Some object) (eqb-true other site e) place

  -- a function is the object's own, or stands behind them
  abbrev Split : ℕ → List Function → List Function → ℕ → Type 0
  Split object own rest number = ((number < length own) × (home ≡ Some object)) ⊎ ((k : ℕ) × (number ≡ length own + k) × (function_for rest site ≡ Some k))

  split : (object : ℕ) (own rest : List Function) (number : ℕ) → AreOfObject setting object own → function_for (own ++ rest) site ≡ Some number → Split object own rest number
  split object [] rest number place e = let z : number ≡ 0 + number = omega arith in inr (number, z, e)
  split object (function ∷ own) rest number place e =
      by (is_at function.site site) refl e (function_for (own ++ rest) site) refl (λ n f. split object own rest n place.1 f)
    where
      again : (n : ℕ) → number ≡ suc n → Split object own rest n → Split object (function ∷ own) rest number
      again n is (inl here) = inl ((rw is (omega (arith, here.0))), here.1)
      again n is (inr behind) = inr (behind.0, (omega (arith, is, behind.1)), behind.2)

      further : (o : Option ℕ) → function_for (own ++ rest) site ≡ o → option_map suc o ≡ Some number → ((n : ℕ) → function_for (own ++ rest) site ≡ Some n → Split object own rest n)
          → Split object (function ∷ own) rest number
      further None is e again_ = cc
      further (Some n) is e again_ = again n (sym (some_is (suc n) number e)) (again_ n is)

      by : (t : Bool) → is_at function.site site ≡ t → (if t then Some 0 else option_map suc (function_for (own ++ rest) site)) ≡ Some number
          → (o : Option ℕ) → function_for (own ++ rest) site ≡ o → ((n : ℕ) → function_for (own ++ rest) site ≡ Some n → Split object own rest n)
          → Split object (function ∷ own) rest number
      by true is e o found rest_ = inl ((rw (sym (some_is 0 number e)) (omega arith)), own_site object function.site place.0 is)
      by false is e o found rest_ = further o found (ap (option_map suc) (sym found) ∙ e) rest_

  in_object : (objects : List PatchObject) (number : ℕ) → ObjectsInPlace setting objects → function_for (all_functions objects) site ≡ Some number
      → object_of_function objects number ≡ home
  in_object [] number place e = cc
  in_object (object ∷ objects) number place e = by (split object.object object.functions (all_functions objects) number place.0 e) (λ k f. in_object objects k place.1 f)
    where
      by : Split object.object object.functions (all_functions objects) number → ((k : ℕ) → function_for (all_functions objects) site ≡ Some k → object_of_function objects k ≡ home)
          → object_of_function (object ∷ objects) number ≡ home
      by (inl here) rest = ap (λ b. if b then Some object.object else object_of_function objects (number - length object.functions)) (lt-ltb number (length object.functions) here.0) ∙ sym here.1
      by (inr behind) rest =
          let far : length object.functions ≤ number = omega (arith, behind.1) in
          let less : number - length object.functions ≡ behind.0 = omega (arith, behind.1) in
          ap (λ b. if b then Some object.object else object_of_function objects (number - length object.functions)) (le-ltb number (length object.functions) far)
          ∙ ap (object_of_function objects) less ∙ rest behind.0 behind.2

  objects_placed : (patches : List Patch) (patch : ℕ) → PatchesInPlace setting patches → ObjectsInPlace setting (patch_objects (slice_get patches patch))
  objects_placed [] patch place = tt
  objects_placed (first ∷ patches) zero place = place.0
  objects_placed (first ∷ patches) (suc patch) place = objects_placed patches patch place.1

  module _ (in_place : IsInPlace setting) where
    chosen_placed : (patch : ℕ) (function : Option ℕ) (replace : Bool) (older : Version) → function_for (functions_of setting patch) site ≡ function
        → object_of_version setting older ≡ home → object_of_version setting (chosen site patch function replace older) ≡ home
    chosen_placed patch (Some function) replace older is rest = in_object (objects_of setting patch) function (objects_placed setting.patches patch in_place) is
    chosen_placed patch None true older is rest = refl
    chosen_placed patch None false older is rest = rest

    in_placed : (patches : List ℕ) → object_of_version setting (version_in setting site patches) ≡ home
    in_placed [] = refl
    in_placed (patch ∷ older) =
        chosen_placed patch (function_for (functions_of setting patch) site) (replaces setting patch) (version_in setting site older) refl (in_placed older)

    by_state : (moving : Option Transition) (patches : List ℕ) (task : ℤ) (t : Bool) → is_unpatched task ≡ t → AreDistinct patches
        → object_of_version setting (version_for setting moving patches task site) ≡ home
    by_state moving patches task false is distinct = ap (object_of_version setting) (patched_in setting moving patches task site is) ∙ in_placed (reverse patches)
    by_state None patches task true is distinct = ap (object_of_version setting) (at_rest_in setting patches task site) ∙ in_placed (reverse patches)
    by_state (Some move) patches (negsuc n) true is distinct = cc
    by_state (Some move) patches (pos n) true is distinct =
        subst (λ k. object_of_version setting (version_for setting (Some move) patches (pos k) site) ≡ home) (sym (eqb-true n 0 is))
        (ap (object_of_version setting) (unpatched_in setting move patches site distinct) ∙ in_placed (reverse (others move.patch patches)))

    -- what a task runs lies in the object of the site
    pub placed : (moving : Option Transition) (patches : List ℕ) (task : ℤ) → AreDistinct patches → object_of_version setting (version_for setting moving patches task site) ≡ home
    placed moving patches task distinct = by_state moving patches task (is_unpatched task) refl distinct
