-- Functions of a patch that name no site.
use Rattle.std.proofs.Common.{◌≡◌, ℕ, Bool, true, false, ◌&&◌, ◌||◌, List, [], ◌∷◌, Option, Some, None, map, refl, sym, ap, ◌∙◌}
use Rattle.std.specs.Prelude.{is_none, is_some, option_map, slice_get, slice_index_or}
use Rattle.std.specs.List.{list_any, list_all}
use Rattle.std.proofs.lemmas.Bool.{and_parts}
use Rattle.std.proofs.lemmas.List.Folds.{list_any-append}
use Rattle.std.proofs.lemmas.Option.{slice_get-map}
use Rattle.std.proofs.Math.Bool.{and-false}
use Rattle.klp_types.specs.Setting.{Patch, PatchObject, Function, patch_objects}
use Rattle.klp_model.specs.Refusals.{lacks_symbol}
use Rattle.klp_modules.specs.Names.{ObjectNames}
use Rattle.klp_catalog_text.specs.Plan.{PlanFunction, PlanTarget, PlanPatch}
use Rattle.klp_catalog.specs.Catalog.{CatalogFunction, catalog_functions, functions_of_patch, functions_of_target, targets_of_patch, patch_object, resolved_function, setting_patch, setting_function, site_of}
use Rattle.klp_manager_state.specs.Managed.{Managed, setting_of}

-- where each function names a site, none lacks its symbol
named : (loaded : Bool) (site : Option ℕ) → is_some site ≡ true → false ≡ (loaded && is_none site)
named loaded None names = cc
named loaded (Some site) names = sym (and-false loaded)

pub none_lacks : (loaded : ℕ → Bool) (functions : List CatalogFunction) → list_all (λ (f : CatalogFunction). is_some f.site) functions ≡ true
    → false ≡ list_any (λ (f : CatalogFunction). loaded f.object && is_none f.site) functions
none_lacks loaded [] names = refl
none_lacks loaded (f ∷ functions) names =
    let parts = and_parts (is_some f.site) (list_all (λ (g : CatalogFunction). is_some g.site) functions) names in
    none_lacks loaded functions parts.1 ∙ ap (λ b. b || list_any (λ (g : CatalogFunction). loaded g.object && is_none g.site) functions) (named (loaded f.object) f.site parts.0)

-- a patch lacks a symbol where one of its functions, over all objects, is for a loaded object and names no site

and-or : (b x y : Bool) → (b && (x || y)) ≡ ((b && x) || (b && y))
and-or true x y = refl
and-or false x y = refl

pub lacks_target : (names : List ObjectNames) (loaded : ℕ → Bool) (object : ℕ) (functions : List PlanFunction)
    → (loaded object && list_any (λ (f : Function). is_none f.site) (map setting_function (map (resolved_function names object) functions)))
    ≡ list_any (λ (f : CatalogFunction). loaded f.object && is_none f.site) (map (resolved_function names object) functions)
lacks_target names loaded object [] = and-false (loaded object)
lacks_target names loaded object (f ∷ functions) =
    let own = is_none (site_of names object f) in
    let later = list_any (λ (g : Function). is_none g.site) (map setting_function (map (resolved_function names object) functions)) in
    and-or (loaded object) own later ∙ ap (λ b. (loaded object && own) || b) (lacks_target names loaded object functions)

lacks_targets : (names : List ObjectNames) (loaded : ℕ → Bool) (targets : List PlanTarget)
    → list_any (λ (o : PatchObject). loaded o.object && list_any (λ (f : Function). is_none f.site) o.functions) (map (patch_object names) targets)
    ≡ list_any (λ (f : CatalogFunction). loaded f.object && is_none f.site) (functions_of_patch names targets)
lacks_targets names loaded [] = refl
lacks_targets names loaded (target ∷ targets) =
    let test = λ (f : CatalogFunction). loaded f.object && is_none f.site in
    let later = list_any (λ (o : PatchObject). loaded o.object && list_any (λ (f : Function). is_none f.site) o.functions) (map (patch_object names) targets) in
    ap (λ b. b || later) (lacks_target names loaded target.object target.functions)
    ∙ ap (λ b. list_any test (functions_of_target names target) || b) (lacks_targets names loaded targets)
    ∙ sym (list_any-append test (functions_of_target names target) (functions_of_patch names targets))

lacks_found : (names : List ObjectNames) (loaded : ℕ → Bool) (found : Option PlanPatch)
    → list_any (λ (o : PatchObject). loaded o.object && list_any (λ (f : Function). is_none f.site) o.functions) (patch_objects (option_map (setting_patch names) found))
    ≡ list_any (λ (f : CatalogFunction). loaded f.object && is_none f.site) (functions_of_patch names (targets_of_patch found))
lacks_found names loaded None = refl
lacks_found names loaded (Some patch) = lacks_targets names loaded patch.targets

pub lacks_symbol-any : (managed : Managed) (loaded : List Bool) (patch : ℕ)
    → list_any (λ (f : CatalogFunction). slice_index_or loaded f.object false && is_none f.site) (catalog_functions managed.catalog patch)
    ≡ lacks_symbol (setting_of managed) loaded patch
lacks_symbol-any managed flags patch =
    let loaded = λ (object : ℕ). slice_index_or flags object false in
    let lacks = λ (o : PatchObject). loaded o.object && list_any (λ (f : Function). is_none f.site) o.functions in
    sym (lacks_found managed.catalog.names loaded (slice_get managed.catalog.patches patch))
    ∙ ap (λ (found : Option Patch). list_any lacks (patch_objects found)) (sym (slice_get-map (setting_patch managed.catalog.names) managed.catalog.patches patch))
