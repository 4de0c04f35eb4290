-- The patch of a number, as a look-up finds it.
use Rattle.std.proofs.Common.{◌≡◌, ℕ, ◌+◌, ◌≤◌, ◌==◌, List, [], ◌∷◌, ◌++◌, replicate, length, map, slice_get, Some, None, Option, refl, sym, ap, subst, ◌∙◌, arith, Bor, Bool, true, ◌&&◌, option_map}
use Rattle.std.specs.Prelude.{position, MatchOption, option_and_then, not, ◌||◌}
use Rattle.std.specs.List.{list_all, list_any}
use Rattle.std.specs.Slice.{IsItemAt}
use Rattle.std.proofs.lemmas.List.{length-map, map-append}
use Rattle.std.proofs.lemmas.Option.{slice_get_past, slice_get_within, slice_get-map}
use Rattle.klp_types.specs.Setting.{PatchObject, Callback}
use Rattle.klp_types.specs.Entries.{is_empty}
use Rattle.klp_types.specs.Script.{Script}
use Rattle.klp_types.specs.declared.callback.Which.{Which}
use Rattle.klp_types.specs.Compatible.{SystemState, version_among, is_compatible_with}
use Rattle.klp_modules.specs.Names.{ObjectNames}
use Rattle.klp_catalog_text.specs.Plan.{PlanFunction}
use Rattle.klp_catalog.specs.Catalog.{CatalogFunction, Catalog, patch_object, targets_of_patch, resolved_function, functions_of_patch}
use Rattle.klp_catalog.specs.States.{states_of, is_cumulative, is_compatible}
use Rattle.klp_catalog.specs.Runs.{objects_at, has_callbacks}
use Rattle.klp_catalog.specs.Stored.{StoredTarget, StoredPatch, number_in, number_of, callbacks_from, target_in, patch_in, patches_in, targets_at, stored_functions, stored_states, stored_replaces, IsStored}
use Rattle.klp_catalog.specs.Patch.{objects_in_order, kinds_of, IsPatch, IsAbsent, KeepsTo}
use Rattle.klp_catalog.proofs.CatalogLemmas.{catalog_of, states_are, replaces_is, functions_are, in_setting, few_functions, apart_functions, patch_in_object, few_targets, few_states}
use Rattle.klp_catalog.proofs.RunLemmas.{objects_are, place_is, seen_here}
use Rattle.klp_catalog.proofs.PlaceLemmas.{object_once}

-- what a look-up lends: what holds of the item at this place, or of there being none
pub looked_up : {X : Type 0} (xs : List X) (i : ℕ) (P : Type 0) (Q : X → Type 0) → (length xs ≤ i → P) → ((x : X) → slice_get xs i ≡ Some x → Q x)
    → (r : Option (Bor X)) → IsItemAt xs i r → MatchOption r P (λ found. Q found.now)
looked_up xs i P Q none some None item = none item.3
looked_up xs i P Q none some (Some found) item = some found.now (seen_here xs i i found.now refl item.3.0 item.1)

kept_objects : (names : List ObjectNames) (scripts : List Script) (targets : List StoredTarget)
    → map (λ (t : StoredTarget). t.object) targets ≡ map (λ (o : PatchObject). o.object) (map (patch_object names) (map (target_in scripts) targets))
kept_objects names scripts [] = refl
kept_objects names scripts (target ∷ targets) = ap (target.object ∷◌) (kept_objects names scripts targets)

kinds_from : (scripts : List Script) (n : ℕ) (kinds : List Which) → kinds ≡ map (λ (c : Callback). c.which) (callbacks_from scripts n kinds)
kinds_from scripts n [] = refl
kinds_from scripts n (which ∷ kinds) = ap (which ∷◌) (kinds_from scripts (n + 1) kinds)

kept_kinds : (names : List ObjectNames) (scripts : List Script) (targets : List StoredTarget)
    → map (λ (t : StoredTarget). t.kinds) targets ≡ map kinds_of (map (patch_object names) (map (target_in scripts) targets))
kept_kinds names scripts [] = refl
kept_kinds names scripts (target ∷ targets) = λ i. kinds_from scripts target.first target.kinds i ∷ kept_kinds names scripts targets i

each_object : (names : List ObjectNames) (object : ℕ) (functions : List PlanFunction)
    → map (λ (f : CatalogFunction). f.object) (map (resolved_function names object) functions) ≡ replicate (length functions) object
each_object names object [] = refl
each_object names object (function ∷ functions) = ap (object ∷◌) (each_object names object functions)

in_order : (names : List ObjectNames) (scripts : List Script) (targets : List StoredTarget)
    → map (λ (f : CatalogFunction). f.object) (functions_of_patch names (map (target_in scripts) targets)) ≡ objects_in_order targets
in_order names scripts [] = refl
in_order names scripts (target ∷ targets) =
    map-append (λ (f : CatalogFunction). f.object) (map (resolved_function names target.object) target.functions) (functions_of_patch names (map (target_in scripts) targets))
    ∙ (λ i. each_object names target.object target.functions i ++ in_order names scripts targets i)

module _ {names : List ObjectNames} {symbols : List ℕ} (stored : List StoredPatch) (scripts : List Script) {counts : List ℕ} (catalog : Catalog)
    (view : catalog_of names stored scripts counts ≡ catalog) (kept : IsStored names symbols stored scripts counts) (p : ℕ) where
  pub absent : length stored ≤ p → IsAbsent catalog p
  absent past =
      let none = slice_get_past stored p past in
      subst (λ k. IsAbsent k p) view (record {
        past = omega (arith, past, length-map stored (patch_in scripts));
        replaces = sym (replaces_is names stored scripts counts p) ∙ ap stored_replaces none;
        functions = sym (functions_are stored scripts kept p) ∙ ap stored_functions none;
        states = sym (states_are names stored scripts counts p) ∙ ap stored_states none;
        objects = objects_are names stored scripts counts (catalog_of names stored scripts counts) refl p ∙ ap (λ s. map (patch_object names) (map (target_in scripts) (targets_at s))) none;
      })

  pub found : (patch : StoredPatch) → slice_get stored p ≡ Some patch → IsPatch catalog p patch
  found patch here =
      subst (λ k. IsPatch k p patch) view (record {
        there = omega (arith, slice_get_within stored p patch here, length-map stored (patch_in scripts));
        replaces = ap stored_replaces (sym here) ∙ replaces_is names stored scripts counts p;
        functions = ap stored_functions (sym here) ∙ functions_are stored scripts kept p;
        in_order = ap (map (λ (f : CatalogFunction). f.object)) (
            ap stored_functions (sym here)
            ∙ functions_are stored scripts kept p
            ∙ ap (λ o. functions_of_patch names (targets_of_patch o)) (slice_get-map (patch_in scripts) stored p ∙ ap (option_map (patch_in scripts)) here)
            ) ∙ in_order names scripts patch.targets;
        states = ap stored_states (sym here) ∙ states_are names stored scripts counts p;
        objects = kept_objects names scripts patch.targets
            ∙ ap (map (λ (o : PatchObject). o.object)) (sym (objects_are names stored scripts counts (catalog_of names stored scripts counts) refl p ∙ ap (λ s. map (patch_object names) (map (target_in scripts) (targets_at s))) here));
        kinds = kept_kinds names scripts patch.targets
            ∙ ap (map kinds_of) (sym (objects_are names stored scripts counts (catalog_of names stored scripts counts) refl p ∙ ap (λ s. map (patch_object names) (map (target_in scripts) (targets_at s))) here));
        places = λ object. ap (λ s. position (λ (t : StoredTarget). t.object == object) (targets_at s)) (sym here)
            ∙ sym (place_is names stored scripts counts (catalog_of names stored scripts counts) refl p object);
      })

  pub keeps : KeepsTo catalog p
  keeps =
      let objects = objects_are names stored scripts counts (catalog_of names stored scripts counts) refl p in
      let targets = targets_at (slice_get stored p) in
      subst (λ k. KeepsTo k p) view (record {
        setting = in_setting names (patches_in scripts stored) p;
        in_object = patch_in_object names (targets_of_patch (slice_get (patches_in scripts stored) p));
        distinct = apart_functions stored scripts kept p;
        few_functions = few_functions stored scripts kept p;
        few_states = omega (arith, ap length (states_are names stored scripts counts p), few_states stored scripts p kept);
        few_objects = omega (
          arith,
          ap length objects,
          length-map (map (target_in scripts) targets) (patch_object names),
          length-map targets (target_in scripts),
          few_targets stored scripts p kept,
        );
        once = λ object. object_once names object (patches_in scripts stored) p kept.few.each_within;
      })

-- so many objects are kept
pub kept_count : (catalog : Catalog) (p : ℕ) (patch : StoredPatch) → IsPatch catalog p patch → length patch.targets ≡ length (objects_at catalog p)
kept_count catalog p patch is =
    sym (length-map patch.targets (λ (t : StoredTarget). t.object)) ∙ ap length is.objects ∙ length-map (objects_at catalog p) (λ (o : PatchObject). o.object)

-- an object by its place
pub kept_object : (catalog : Catalog) (p place : ℕ) (patch : StoredPatch) (target : StoredTarget) → IsPatch catalog p patch → slice_get patch.targets place ≡ Some target
    → option_map (λ (o : PatchObject). o.object) (slice_get (objects_at catalog p) place) ≡ Some target.object
kept_object catalog p place patch target is here =
    sym (slice_get-map (λ (o : PatchObject). o.object) (objects_at catalog p) place)
    ∙ ap (λ os. slice_get os place) (sym is.objects)
    ∙ slice_get-map (λ (t : StoredTarget). t.object) patch.targets place
    ∙ ap (option_map (λ (t : StoredTarget). t.object)) here

-- the number of a callback of an object that is kept
pub number_there : (patches : List StoredPatch) (p place : ℕ) (which : Which) (patch : StoredPatch) (target : StoredTarget) → slice_get patches p ≡ Some patch
    → slice_get patch.targets place ≡ Some target → number_of patches p place which ≡ number_in which target
number_there patches p place which patch target here there =
    ap (λ s. option_and_then (number_in which) (slice_get (targets_at s) place)) here ∙ ap (option_and_then (number_in which)) there

-- whether a patch can live with the states of another
abbrev pub lives_with : Catalog → ℕ → ℕ → Bool
lives_with catalog p other =
    list_all (λ (s : SystemState). is_compatible_with (is_cumulative catalog p) s (version_among s.id (states_of catalog p))) (states_of catalog other)

pub lives_by : (catalog : Catalog) (p other : ℕ) (own others : StoredPatch) → IsPatch catalog p own → IsPatch catalog other others
    → list_all (λ (s : SystemState). is_compatible_with own.replace s (version_among s.id own.states)) others.states ≡ lives_with catalog p other
lives_by catalog p other own others is there =
    λ i. list_all (λ (s : SystemState). is_compatible_with (is.replaces i) s (version_among s.id (is.states i))) (there.states i)

pub lives_with_none : (catalog : Catalog) (p other : ℕ) → IsAbsent catalog other → lives_with catalog p other ≡ true
lives_with_none catalog p other none =
    ap (list_all (λ (s : SystemState). is_compatible_with (is_cumulative catalog p) s (version_among s.id (states_of catalog p)))) none.states

pub compatible_next : (catalog : Catalog) (p other : ℕ) (rest : List ℕ) → lives_with catalog p other ≡ true → is_compatible catalog p (other ∷ rest) ≡ is_compatible catalog p rest
compatible_next catalog p other rest lives = ap (λ b. b && is_compatible catalog p rest) lives

some_kind : (kinds : List Which) (callbacks : List Callback) → kinds ≡ map (λ (c : Callback). c.which) callbacks → is_empty kinds ≡ is_empty callbacks
some_kind kinds [] same = ap is_empty same
some_kind kinds (callback ∷ callbacks) same = ap is_empty same

any_kinds : (objects : List PatchObject) → list_any (λ (kinds : List Which). not (is_empty kinds)) (map kinds_of objects) ≡ list_any (λ (o : PatchObject). not (is_empty o.callbacks)) objects
any_kinds [] = refl
any_kinds (object ∷ objects) = λ i. not (some_kind (kinds_of object) object.callbacks refl i) || any_kinds objects i

any_targets : (targets : List StoredTarget) → list_any (λ (t : StoredTarget). not (is_empty t.kinds)) targets ≡ list_any (λ (kinds : List Which). not (is_empty kinds)) (map (λ (t : StoredTarget). t.kinds) targets)
any_targets [] = refl
any_targets (target ∷ targets) = ap (not (is_empty target.kinds) ||◌) (any_targets targets)

-- whether a patch that is kept has a callback
pub kept_callbacks : (catalog : Catalog) (p : ℕ) (patch : StoredPatch) → IsPatch catalog p patch → list_any (λ (t : StoredTarget). not (is_empty t.kinds)) patch.targets ≡ has_callbacks catalog p
kept_callbacks catalog p patch is =
    any_targets patch.targets ∙ ap (list_any (λ (kinds : List Which). not (is_empty kinds))) is.kinds ∙ any_kinds (objects_at catalog p)
