-- What is looked at before a module comes: symbols that aren't found.
use Rattle.std.proofs.Common.{◌≡◌, ℕ, ◌+◌, Bool, true, false, ◌&&◌, ◌||◌, List, [], ◌∷◌, map, Option, Some, None, refl, sym, ap, ◌∙◌}
use Rattle.std.specs.Prelude.{◌==◌, is_none, option_map, slice_get, if◌then◌else◌}
use Rattle.std.specs.List.{filter, list_any, enumerate_from}
use Rattle.std.proofs.lemmas.List.Folds.{list_any-append}
use Rattle.std.proofs.lemmas.Option.{slice_get-map}
use Rattle.klp_types.specs.Setting.{PatchObject, patch_objects}
use Rattle.klp_model.specs.ModuleCalls.{Part, parts_among}
use Rattle.klp_model.specs.Refusals.{lacks_symbol_of}
use Rattle.klp_modules.specs.Names.{ObjectNames}
use Rattle.klp_catalog_text.specs.Plan.{PlanTarget, PlanPatch}
use Rattle.klp_catalog.specs.Catalog.{Catalog, CatalogFunction, catalog_functions, functions_of_target, functions_of_patch, targets_of_patch, patch_object, setting_patch}
use Rattle.klp_patch.specs.ModuleParts.{parts_at, parts_in}
use Rattle.klp_patch_events.proofs.SymbolLemmas.{lacks_target}

-- a patch has a function for the module that names no site

abbrev lacks : ℕ → CatalogFunction → Bool
lacks object f = f.object == object && is_none f.site

one_of_them : (there : Bool) (patch place : ℕ) (own : PatchObject) (others : List (ℕ × PatchObject))
    → list_any (λ (p : Part). lacks_symbol_of p.1.1) (parts_among patch (if there then (place, own) ∷ others else others))
    ≡ ((there && lacks_symbol_of own) || list_any (λ (p : Part). lacks_symbol_of p.1.1) (parts_among patch others))
one_of_them true patch place own others = refl
one_of_them false patch place own others = refl

lacks_targets : (names : List ObjectNames) (object patch place : ℕ) (targets : List PlanTarget)
    → list_any (λ (p : Part). lacks_symbol_of p.1.1)
    (parts_among patch (filter (λ (o : ℕ × PatchObject). o.1.object == object) (enumerate_from place (map (patch_object names) targets))))
    ≡ list_any (lacks object) (functions_of_patch names targets)
lacks_targets names object patch place [] = refl
lacks_targets names object patch place (target ∷ targets) =
    let others = filter (λ (o : ℕ × PatchObject). o.1.object == object) (enumerate_from (place + 1) (map (patch_object names) targets)) in
    one_of_them (target.object == object) patch place (patch_object names target) others
    ∙ ap (λ b. b || list_any (λ (p : Part). lacks_symbol_of p.1.1) (parts_among patch others)) (lacks_target names (λ own. own == object) target.object target.functions)
    ∙ ap (λ b. list_any (lacks object) (functions_of_target names target) || b) (lacks_targets names object patch (place + 1) targets)
    ∙ sym (list_any-append (lacks object) (functions_of_target names target) (functions_of_patch names targets))

lacks_found : (names : List ObjectNames) (object patch : ℕ) (found : Option PlanPatch)
    → list_any (λ (p : Part). lacks_symbol_of p.1.1)
    (parts_among patch (filter (λ (o : ℕ × PatchObject). o.1.object == object) (enumerate_from 0 (patch_objects (option_map (setting_patch names) found)))))
    ≡ list_any (lacks object) (functions_of_patch names (targets_of_patch found))
lacks_found names object patch None = refl
lacks_found names object patch (Some found) = lacks_targets names object patch 0 found.targets

lacks_at : (catalog : Catalog) (object patch : ℕ) → list_any (λ (p : Part). lacks_symbol_of p.1.1) (parts_at catalog object patch) ≡ list_any (lacks object) (catalog_functions catalog patch)
lacks_at catalog object patch =
    ap (λ found. list_any (λ (p : Part). lacks_symbol_of p.1.1)
    (parts_among patch (filter (λ (o : ℕ × PatchObject). o.1.object == object) (enumerate_from 0 (patch_objects found)))))
    (slice_get-map (setting_patch catalog.names) catalog.patches patch)
    ∙ lacks_found catalog.names object patch (slice_get catalog.patches patch)

pub lacks_in : (catalog : Catalog) (object : ℕ) (patches : List ℕ)
    → list_any (λ patch. list_any (λ (f : CatalogFunction). f.object == object && is_none f.site) (catalog_functions catalog patch)) patches
    ≡ list_any (λ (p : Part). lacks_symbol_of p.1.1) (parts_in catalog object patches)
lacks_in catalog object [] = refl
lacks_in catalog object (patch ∷ patches) =
    ap (λ b. list_any (lacks object) (catalog_functions catalog patch) || b) (lacks_in catalog object patches)
    ∙ ap (λ b. b || list_any (λ (p : Part). lacks_symbol_of p.1.1) (parts_in catalog object patches)) (sym (lacks_at catalog object patch))
    ∙ sym (list_any-append (λ (p : Part). lacks_symbol_of p.1.1) (parts_at catalog object patch) (parts_in catalog object patches))
