-- The object that a version is in: that of a function, and that of a site.
use Rattle.std.proofs.Common.{◌≡◌, ℕ, zero, suc, ◌+◌, ◌-◌, ◌<◌, Bool, true, false, List, [], ◌∷◌, ◌++◌, length, map, take, Option, Some, None, refl, sym, ap, ◌∙◌, arith}
use Rattle.std.proofs.lemmas.List.{length-map}
use Rattle.std.specs.Prelude.{nat_lt, option_map, slice_get, bytes_eq, if◌then◌else◌}
use Rattle.std.specs.List.{count_by}
use Rattle.std.proofs.lemmas.Option.{slice_get-map, slice_get-get_or}
use borrow.Author.Tests.{ltb-true, ltb-false}
use Rattle.klp_types.specs.Image.{Symbol, Object, object_of}
use Rattle.klp_types.specs.Setting.{patch_objects}
use Rattle.klp_types.proofs.SiteLemmas.{slice_get-append_left, slice_get-append_right}
use Rattle.klp_model.specs.Frames.{object_of_function}
use Rattle.klp_modules.specs.Names.{ObjectNames, Named, names_of, named_at, symbol_from}
use Rattle.klp_catalog_text.specs.Plan.{PlanFunction, PlanTarget, PlanPatch}
use Rattle.klp_catalog.specs.Catalog.{Catalog, CatalogFunction, catalog_functions, resolved_function, setting_function, functions_of_target, functions_of_patch, targets_of_patch, patch_object, setting_patch}

-- the object of a function

object_in : (names : List ObjectNames) (object : ℕ) (functions : List PlanFunction) (number : ℕ) → number < length functions
    → option_map (λ (f : CatalogFunction). f.object) (slice_get (map (resolved_function names object) functions) number) ≡ Some object
object_in names object [] number below = absurd (omega arith)
object_in names object (f ∷ functions) zero below = refl
object_in names object (f ∷ functions) (suc number) below = object_in names object functions number (omega arith)

either_target : (names : List ObjectNames) (target : PlanTarget) (other : Option ℕ) (others : List CatalogFunction) (number : ℕ) (below : Bool)
    → nat_lt number (length (functions_of_target names target)) ≡ below
    → option_map (λ (f : CatalogFunction). f.object) (slice_get others (number - length (functions_of_target names target))) ≡ other
    → option_map (λ (f : CatalogFunction). f.object)
    (slice_get (functions_of_target names target ++ others) number)
    ≡ (if below then Some target.object else other)
either_target names target other others number true is later =
    let within = ltb-true number (length (functions_of_target names target)) is in
    let count = length-map target.functions (resolved_function names target.object) in
    ap (option_map (λ (f : CatalogFunction). f.object)) (slice_get-append_left (functions_of_target names target) others number within)
    ∙ object_in names target.object target.functions number (omega (arith, within, count))
either_target names target other others number false is later =
    ap (option_map (λ (f : CatalogFunction). f.object)) (slice_get-append_right (functions_of_target names target) others number (ltb-false number (length (functions_of_target names target)) is))
    ∙ later

object_of_targets : (names : List ObjectNames) (targets : List PlanTarget) (number : ℕ)
    → option_map (λ (f : CatalogFunction). f.object) (slice_get (functions_of_patch names targets) number) ≡ object_of_function (map (patch_object names) targets) number
object_of_targets names [] number = refl
object_of_targets names (target ∷ targets) number =
    let own = functions_of_target names target in
    let count : length (map setting_function own) ≡ length own = length-map own setting_function in
    let later = object_of_targets names targets (number - length own) in
    either_target names target (object_of_function (map (patch_object names) targets) (number - length own)) (functions_of_patch names targets) number (nat_lt number (length own)) refl later
    ∙ ap (λ n. if nat_lt number n then Some target.object else object_of_function (map (patch_object names) targets) (number - n)) (sym count)

object_of_found : (names : List ObjectNames) (found : Option PlanPatch) (number : ℕ)
    → option_map (λ (f : CatalogFunction). f.object) (slice_get (functions_of_patch names (targets_of_patch found)) number)
    ≡ object_of_function (patch_objects (option_map (setting_patch names) found)) number
object_of_found names None number = refl
object_of_found names (Some found) number = object_of_targets names found.targets number

pub function_lies_in : (catalog : Catalog) (patch number : ℕ)
    → option_map (λ (f : CatalogFunction). f.object) (slice_get (catalog_functions catalog patch) number)
    ≡ object_of_function (patch_objects (slice_get (map (setting_patch catalog.names) catalog.patches) patch)) number
function_lies_in catalog patch number =
    object_of_found catalog.names (slice_get catalog.patches patch) number
    ∙ ap (λ found. object_of_function (patch_objects found) number) (sym (slice_get-map (setting_patch catalog.names) catalog.patches patch))

-- the object of a site

named_there : (number : ℕ) (symbols : List (List ℕ)) (place : ℕ) → place < length symbols → option_map (λ (s : Named). s.object) (named_at number symbols place) ≡ Some (number + 0)
named_there number symbols place below =
    let e : number ≡ number + 0 = omega arith in
    ap (λ o. option_map (λ (s : Named). s.object) (option_map (λ name. record { object = number; name = name; position = count_by (bytes_eq name) (take (place + 1) symbols) }) o))
    (slice_get-get_or symbols place [] below)
    ∙ ap Some e

numbered_on : (number : ℕ) (found : Option ℕ) → option_map (λ k. suc number + k) found ≡ option_map (λ k. number + k) (option_map suc found)
numbered_on number None = refl
numbered_on number (Some k) = let e : suc number + k ≡ number + suc k = omega arith in ap Some e

either_object : (number : ℕ) (symbols : List (List ℕ)) (objects : List Object) (site : ℕ) (below : Bool) → nat_lt site (length symbols) ≡ below
    → option_map (λ (s : Named). s.object) (symbol_from (suc number) (names_of objects) (site - length symbols)) ≡ option_map (λ k. suc number + k) (object_of objects (site - length symbols))
    → option_map (λ (s : Named). s.object) (if below then named_at number symbols site else symbol_from (suc number) (names_of objects) (site - length symbols))
    ≡ option_map (λ k. number + k) (if below then Some 0 else option_map suc (object_of objects (site - length symbols)))
either_object number symbols objects site true is later = named_there number symbols site (ltb-true site (length symbols) is)
either_object number symbols objects site false is later = later ∙ numbered_on number (object_of objects (site - length symbols))

site_from : (number : ℕ) (objects : List Object) (site : ℕ)
    → option_map (λ (s : Named). s.object) (symbol_from number (names_of objects) site) ≡ option_map (λ k. number + k) (object_of objects site)
site_from number [] site = refl
site_from number (object ∷ objects) site =
    let symbols = map (λ (s : Symbol). s.name) object.symbols in
    let count : length symbols ≡ length object.symbols = length-map object.symbols (λ (s : Symbol). s.name) in
    either_object number symbols objects site (nat_lt site (length symbols)) refl (site_from (suc number) objects (site - length symbols))
    ∙ ap (λ n. option_map (λ k. number + k) (if nat_lt site n then Some 0 else option_map suc (object_of objects (site - n)))) count

from_zero : (found : Option ℕ) → option_map (λ k. 0 + k) found ≡ found
from_zero None = refl
from_zero (Some k) = let e : 0 + k ≡ k = omega arith in ap Some e

pub site_lies_in : (objects : List Object) (site : ℕ) → option_map (λ (s : Named). s.object) (symbol_from 0 (names_of objects) site) ≡ object_of objects site
site_lies_in objects site = site_from 0 objects site ∙ from_zero (object_of objects site)
