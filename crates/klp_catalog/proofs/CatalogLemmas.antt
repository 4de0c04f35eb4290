-- What a catalog keeps is what its plan and its modules give.
use Rattle.std.proofs.Common.{◌≡◌, ℕ, zero, suc, ◌+◌, ◌<◌, ◌≤◌, Bool, true, false, ◌||◌, List, [], ◌∷◌, ◌++◌, length, map, slice_get, option_map, find, reverse, Some, None, Option, refl, sym, ap, ◌∙◌, arith, length-append, if◌then◌else◌}
use Rattle.std.specs.Prelude.{IfSome, is_some, take, ok_or}
use Rattle.std.specs.List.{All, AllByRecursion}
use Rattle.std.specs.Result.{result_ok}
use Rattle.std.proofs.lemmas.List.{length-map, map-append}
use Rattle.std.proofs.lemmas.List.Elements.{All-append, All-cons, All-nil}
use Rattle.std.proofs.lemmas.List.Sums.{sum_by-cons}
use Rattle.std.proofs.lemmas.Option.{slice_get-map}
use Rattle.klp_types.specs.Compatible.{version_among}
use Rattle.klp_types.specs.Setting.{all_functions, patch_objects, patch_states, patch_replaces}
use Rattle.klp_modules.specs.Names.{ObjectNames, first_site, symbol_names, sites_where, picked}
use Rattle.klp_modules.specs.declared.fault.SymbolFault.TheVariants.{NoPosition}
use Rattle.klp_catalog_text.specs.Plan.{PlanFunction, PlanTarget, PlanPatch}
use Rattle.klp_catalog_text.specs.Draft.{patch_names_of}
use Rattle.klp_catalog_text.specs.PlanParts.{function_count}
use Rattle.klp_catalog.specs.Catalog.{Catalog, site_of, resolved_function, functions_of_target, functions_of_patch, targets_of_patch, setting_function, patch_object, setting_patch, has_same_site, some_same_site}
use Rattle.klp_catalog.specs.States as states
use Rattle.klp_catalog.specs.Assembled.{IsInObject, LiesInObject}
use Rattle.klp_types.specs.Script.{Script}
use Rattle.klp_catalog.specs.Limits.{IsWithin}
use Rattle.klp_catalog.specs.Stored.{StoredPatch, patch_in, patches_in, target_in, patch_size, stored_patches, targets_at, stored_functions, stored_states, stored_replaces, states_at, newest_naming, symbol_count, IsStored}

-- ---- lists

find-same : {A : Type 0} (p q : A → Bool) → ((x : A) → p x ≡ q x) → (xs : List A) → find p xs ≡ find q xs
find-same p q same [] = refl
find-same p q same (x ∷ xs) = rw (same x, find-same p q same xs)

-- ---- the sites of a name lie in its object

-- each of them is a place of the list
sites_where-within : {A : Type 0} (test : A → Bool) (first : ℕ) (xs : List A) (site n : ℕ) → slice_get (sites_where test first xs) n ≡ Some site
    → (first ≤ site) × (site < first + length xs)
sites_where-within test first [] site n h = let no : ⊥ = cc in absurd no
sites_where-within test first (x ∷ xs) site n h = by (test x) n (λ m e. sites_where-within test (suc first) xs site m e) h
  where
    by : (b : Bool) (n : ℕ) → ((m : ℕ) → slice_get (sites_where test (suc first) xs) m ≡ Some site → (suc first ≤ site) × (site < suc first + length xs))
        → slice_get (if b then first ∷ sites_where test (suc first) xs else sites_where test (suc first) xs) n ≡ Some site
        → (first ≤ site) × (site < first + length (x ∷ xs))
    by true zero later e = let same : first ≡ site = cc in (omega arith, omega arith)
    by true (suc m) later e = let rest = later m e in (omega (arith, rest.0), omega (arith, rest.1))
    by false m later e = let rest = later m e in (omega (arith, rest.0), omega (arith, rest.1))

-- what is picked is one of the sites
picked-among : (sites : List ℕ) (position site : ℕ) → result_ok (picked sites position) ≡ Some site → (n : ℕ) × (slice_get sites n ≡ Some site)
picked-among [] position site h = let no : ⊥ = cc in absurd no
picked-among (s ∷ []) zero site h = (0, h)
picked-among (s ∷ other ∷ sites) zero site h = let no : ⊥ = cc in absurd no
picked-among (s ∷ sites) (suc n) site h = (n, there (slice_get (s ∷ sites) n) h)
  where
    there : (found : Option ℕ) → result_ok (ok_or found NoPosition) ≡ Some site → found ≡ Some site
    there (Some x) e = e
    there None e = let no : ⊥ = cc in absurd no

pub site_in_object : (names : List ObjectNames) (object : ℕ) (function : PlanFunction) (site : ℕ) → site_of names object function ≡ Some site → IsInObject names object site
site_in_object names object function site h =
    let among = picked-among _ function.sympos site h in
    let within = sites_where-within _ (first_site names object) (symbol_names (slice_get names object)) site among.0 among.1 in
    record { from = within.0; below = within.1 }

lies_in_object : (names : List ObjectNames) (object : ℕ) (function : PlanFunction) → LiesInObject names (resolved_function names object function)
lies_in_object names object function = by (site_of names object function) (λ site h. site_in_object names object function site h)
  where
    by : (found : Option ℕ) → ((site : ℕ) → found ≡ Some site → IsInObject names object site) → IfSome found (λ site. IsInObject names object site)
    by None h = tt
    by (Some site) h = h site refl

-- ---- the functions of a patch

target_in_object : (names : List ObjectNames) (object : ℕ) (functions : List PlanFunction) → All (LiesInObject names) (map (resolved_function names object) functions)
target_in_object names object [] = All-nil (LiesInObject names)
target_in_object names object (function ∷ functions) =
    All-cons (LiesInObject names) (resolved_function names object function) (map (resolved_function names object) functions) (lies_in_object names object function) (target_in_object names object functions)

pub patch_in_object : (names : List ObjectNames) (targets : List PlanTarget) → All (LiesInObject names) (functions_of_patch names targets)
patch_in_object names [] = All-nil (LiesInObject names)
patch_in_object names (target ∷ targets) =
    All-append (LiesInObject names) (functions_of_target names target) (functions_of_patch names targets) (target_in_object names target.object target.functions) (patch_in_object names targets)

pub setting-functions : (names : List ObjectNames) (targets : List PlanTarget) → map setting_function (functions_of_patch names targets) ≡ all_functions (map (patch_object names) targets)
setting-functions names [] = refl
setting-functions names (target ∷ targets) =
    map-append setting_function (functions_of_target names target) (functions_of_patch names targets)
    ∙ ap (λ fs. map setting_function (functions_of_target names target) ++ fs) (setting-functions names targets)

pub length-functions : (names : List ObjectNames) (targets : List PlanTarget) → length (functions_of_patch names targets) ≡ function_count targets
length-functions names [] = refl
length-functions names (target ∷ targets) =
    omega (
      arith,
      length-append (functions_of_target names target) (functions_of_patch names targets),
      length-map target.functions (resolved_function names target.object),
      length-functions names targets,
      sum_by-cons (λ (t : PlanTarget). length t.functions) target targets,
    )

-- ---- a patch that is there, or isn't

few_in_patch : (patches : List PlanPatch) (p : ℕ) → AllByRecursion IsWithin patches → function_count (targets_of_patch (slice_get patches p)) ≤ 64
few_in_patch [] p small = omega arith
few_in_patch (patch ∷ patches) zero small = small.0.few_functions
few_in_patch (patch ∷ patches) (suc p) small = few_in_patch patches p small.1

apart_in_patch : (names : List ObjectNames) (patches : List PlanPatch) (p : ℕ) → some_same_site names patches ≡ false
    → has_same_site (functions_of_patch names (targets_of_patch (slice_get patches p))) ≡ false
apart_in_patch names [] p h = refl
apart_in_patch names (patch ∷ patches) p h = by (has_same_site (functions_of_patch names patch.targets)) refl h p (λ q rest. apart_in_patch names patches q rest)
  where
    by : (b : Bool) → has_same_site (functions_of_patch names patch.targets) ≡ b → (b || some_same_site names patches) ≡ false → (p : ℕ)
        → ((q : ℕ) → some_same_site names patches ≡ false → has_same_site (functions_of_patch names (targets_of_patch (slice_get patches q))) ≡ false)
        → has_same_site (functions_of_patch names (targets_of_patch (slice_get (patch ∷ patches) p))) ≡ false
    by true e wrong p later = let false_is_true : ⊥ = cc in absurd false_is_true
    by false e rest zero later = e
    by false e rest (suc p) later = later p rest

pub objects_in_patch : (names : List ObjectNames) (found : Option PlanPatch) → patch_objects (option_map (setting_patch names) found) ≡ map (patch_object names) (targets_of_patch found)
objects_in_patch names None = refl
objects_in_patch names (Some patch) = refl

-- the names of patches are kept
pub stored_names : (scripts : List Script) (stored : List StoredPatch) → map (λ (p : StoredPatch). p.name) stored ≡ patch_names_of (patches_in scripts stored)
stored_names scripts [] = refl
stored_names scripts (patch ∷ stored) = ap (patch.name ∷◌) (stored_names scripts stored)

-- what contracts see of what is kept
abbrev pub catalog_of : List ObjectNames → List StoredPatch → List Script → List ℕ → Catalog
catalog_of names stored scripts counts = record { names = names; patches = patches_in scripts stored; runs = counts }

module _ (names : List ObjectNames) (stored : List StoredPatch) (scripts : List Script) (counts : List ℕ) where
  -- a patch as the manager has it
  pub setting_at : (p : ℕ) → slice_get (map (setting_patch names) (patches_in scripts stored)) p ≡ option_map (setting_patch names) (option_map (patch_in scripts) (slice_get stored p))
  setting_at p = slice_get-map (setting_patch names) (patches_in scripts stored) p ∙ ap (option_map (setting_patch names)) (slice_get-map (patch_in scripts) stored p)

  pub states_are : (p : ℕ) → states_at stored p ≡ states.states_of (catalog_of names stored scripts counts) p
  states_are p = by (slice_get stored p) ∙ sym (ap patch_states (setting_at p))
    where
      by : (found : Option StoredPatch) → stored_states found ≡ patch_states (option_map (setting_patch names) (option_map (patch_in scripts) found))
      by None = refl
      by (Some patch) = refl

  pub replaces_is : (p : ℕ) → stored_replaces (slice_get stored p) ≡ states.is_cumulative (catalog_of names stored scripts counts) p
  replaces_is p = by (slice_get stored p) ∙ sym (ap patch_replaces (setting_at p))
    where
      by : (found : Option StoredPatch) → stored_replaces found ≡ patch_replaces (option_map (setting_patch names) (option_map (patch_in scripts) found))
      by None = refl
      by (Some patch) = refl

  pub newest-same : (id : ℕ) (before : List ℕ) → newest_naming stored id before ≡ find (states.names_state (catalog_of names stored scripts counts) id) (reverse before)
  newest-same id before = find-same _ _ (λ p. ap (λ s. is_some (version_among id s)) (states_are p)) (reverse before)

pub in_setting : (names : List ObjectNames) (patches : List PlanPatch) (p : ℕ) → map setting_function (functions_of_patch names (targets_of_patch (slice_get patches p)))
    ≡ all_functions (patch_objects (slice_get (map (setting_patch names) patches) p))
in_setting names patches p =
    setting-functions names (targets_of_patch (slice_get patches p))
    ∙ ap all_functions (sym (ap patch_objects (slice_get-map (setting_patch names) patches p) ∙ objects_in_patch names (slice_get patches p)))

-- the functions that are kept of patches
kept_functions : (names : List ObjectNames) (n : ℕ) (patches : List PlanPatch) (p : ℕ)
    → stored_functions (slice_get (stored_patches names n patches) p) ≡ functions_of_patch names (targets_of_patch (slice_get patches p))
kept_functions names n [] p = refl
kept_functions names n (patch ∷ patches) zero = refl
kept_functions names n (patch ∷ patches) (suc p) = kept_functions names (n + patch_size patch) patches p

module _ {names : List ObjectNames} {symbols : List ℕ} (stored : List StoredPatch) (scripts : List Script) {counts : List ℕ}
    (kept : IsStored names symbols stored scripts counts) where
  pub functions_are : (p : ℕ) → stored_functions (slice_get stored p) ≡ functions_of_patch names (targets_of_patch (slice_get (patches_in scripts stored) p))
  functions_are p = ap (λ s. stored_functions (slice_get s p)) kept.kept ∙ kept_functions names 0 (patches_in scripts stored) p

  pub few_functions : (p : ℕ) → length (functions_of_patch names (targets_of_patch (slice_get (patches_in scripts stored) p))) ≤ 64
  few_functions p = omega (arith, length-functions names (targets_of_patch (slice_get (patches_in scripts stored) p)), few_in_patch (patches_in scripts stored) p kept.few.each_within)

  pub apart_functions : (p : ℕ) → has_same_site (functions_of_patch names (targets_of_patch (slice_get (patches_in scripts stored) p))) ≡ false
  apart_functions p = apart_in_patch names (patches_in scripts stored) p kept.apart

-- ---- the objects of a patch

few_targets_at : (scripts : List Script) (stored : List StoredPatch) (p : ℕ) → AllByRecursion IsWithin (patches_in scripts stored) → length (targets_at (slice_get stored p)) ≤ 8
few_targets_at scripts [] p small = omega arith
few_targets_at scripts (patch ∷ stored) zero small = omega (arith, small.0.few_targets, length-map patch.targets (target_in scripts))
few_targets_at scripts (patch ∷ stored) (suc p) small = few_targets_at scripts stored p small.1

few_states_at : (scripts : List Script) (stored : List StoredPatch) (p : ℕ) → AllByRecursion IsWithin (patches_in scripts stored) → length (states_at stored p) ≤ 16
few_states_at scripts [] p small = omega arith
few_states_at scripts (patch ∷ stored) zero small = small.0.few_states
few_states_at scripts (patch ∷ stored) (suc p) small = few_states_at scripts stored p small.1

module _ {names : List ObjectNames} {symbols : List ℕ} (stored : List StoredPatch) (scripts : List Script) {counts : List ℕ} (p : ℕ)
    (kept : IsStored names symbols stored scripts counts) where
  pub few_targets : length (targets_at (slice_get stored p)) ≤ 8
  few_targets = few_targets_at scripts stored p kept.few.each_within

  pub few_states : length (states_at stored p) ≤ 16
  few_states = few_states_at scripts stored p kept.few.each_within

-- ---- counts of symbols

-- one item more from the front
pub take-next : {A : Type 0} (xs : List A) (n : ℕ) (x : A) → slice_get xs n ≡ Some x → take (suc n) xs ≡ take n xs ++ x ∷ []
take-next [] n x h = let no : ⊥ = cc in absurd no
take-next (y ∷ xs) zero x h = let same : y ≡ x = cc in ap (λ z. z ∷ []) same
take-next (y ∷ xs) (suc n) x h = ap (λ zs. y ∷ zs) (take-next xs n x h)

slice_get-front : {A : Type 0} (xs : List A) (n k : ℕ) → k < n → slice_get (take n xs) k ≡ slice_get xs k
slice_get-front xs zero k h = absurd (omega arith)
slice_get-front [] (suc n) k h = refl
slice_get-front (x ∷ xs) (suc n) zero h = refl
slice_get-front (x ∷ xs) (suc n) (suc k) h = slice_get-front xs n k (omega arith)

pub none_past : {A : Type 0} (xs : List A) (n : ℕ) → slice_get xs n ≡ None → length xs ≤ n
none_past [] n h = omega arith
none_past (x ∷ xs) zero h = let no : ⊥ = cc in absurd no
none_past (x ∷ xs) (suc n) h = omega (arith, none_past xs n h)

-- counts of the objects that an `ObjId` can name
pub symbols-at : (counts : List ℕ) (names : List ObjectNames) (object : ℕ) → counts ≡ take 256 (map symbol_count names) → object < 256
    → slice_get counts object ≡ option_map symbol_count (slice_get names object)
symbols-at counts names object is small =
    ap (λ xs. slice_get xs object) is ∙ slice_get-front (map symbol_count names) 256 object small ∙ slice_get-map symbol_count names object
