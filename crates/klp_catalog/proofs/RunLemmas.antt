-- Runs of callbacks: which script is meant, and what a run leaves.
use Rattle.std.proofs.Common.{◌≡◌, ℕ, zero, suc, ◌+◌, ◌<◌, ◌≤◌, Bool, true, false, cond, List, [], ◌∷◌, length, map, slice_get, option_map, get_or, set, Some, None, Option, refl, sym, ap, subst, ◌∙◌, arith}
use Rattle.std.specs.Prelude.{◌==◌, find, is_some, position, option_and_then}
use Rattle.std.specs.List.{position_from}
use Rattle.std.proofs.lemmas.List.{length-map, length-set}
use Rattle.std.proofs.lemmas.Option.{slice_get-map}
use Rattle.std.proofs.Math.Seq.{map-set_same}
use Rattle.klp_types.specs.declared.callback.Which.{Which}
use Rattle.klp_types.specs.Setting.{Callback, PatchObject, patch_objects}
use Rattle.klp_types.specs.Callbacks.{is_kind, script_for, call_of, after_calls}
use Rattle.klp_types.specs.World.{World}
use Rattle.klp_types.specs.Records.{RecordList}
use Rattle.klp_types.specs.declared.record.Record.{Record}
use Rattle.klp_world.specs.StoredEvent.{rows_of_script}
use Rattle.klp_world.specs.Changes.{Changes}
use Rattle.std.proofs.lemmas.List.{append-nil}
use Rattle.klp_types.specs.Script.{Script, alloc_count, is_alloc, effect}
use Rattle.klp_types.specs.declared.edit.Edit.{Edit}
use Rattle.klp_modules.specs.Names.{ObjectNames}
use Rattle.klp_callback.specs.LentCallback.{LentCallback, counted}
use Rattle.klp_catalog.specs.Assembled.{lent_scripts, lent_counts}
use Rattle.klp_catalog.specs.Catalog.{Catalog, patch_object, setting_patch}
use Rattle.klp_catalog.specs.Counts.{is_callback, counts_after}
use Rattle.klp_catalog.specs.Runs.{callbacks_of, objects_at, script_at, callback_ids, after_runs, runs_of, place_of, rows_if}
use Rattle.klp_catalog.specs.Stored.{StoredTarget, StoredPatch, script_number, callbacks_from, target_in, patch_in, patches_in, targets_at, number_in, number_of, IsStored}
use Rattle.klp_catalog.proofs.NumberLemmas.{IsOnly, only-position, only-within, position-is, number-from, number_only}
use Rattle.klp_catalog.proofs.CountLemmas.{one_grows, add_up}
use Rattle.klp_catalog.proofs.CatalogLemmas.{catalog_of, setting_at}

-- ---- the script of a number

script-numbered : (scripts : List Script) (n : ℕ) (kinds : List Which) (which : Which)
    → script_for which (callbacks_from scripts n kinds) ≡ option_map (script_number scripts) (position_from (λ (w : Which). is_kind w which) n kinds)
script-numbered scripts n [] which = refl
script-numbered scripts n (kind ∷ kinds) which = by (script-numbered scripts (n + 1) kinds which) (is_kind kind which)
  where
    by : script_for which (callbacks_from scripts (n + 1) kinds) ≡ option_map (script_number scripts) (position_from (λ (w : Which). is_kind w which) (n + 1) kinds) → (b : Bool) → option_map (λ (c : Callback). c.script) (cond b (Some (record { which = kind; script = script_number scripts n })) (find (λ (c : Callback). is_kind c.which which) (callbacks_from scripts (n + 1) kinds)))
        ≡ option_map (script_number scripts) (cond b (Some n) (position_from (λ (w : Which). is_kind w which) (n + 1) kinds))
    by later true = refl
    by later false = later

module _ (names : List ObjectNames) (stored : List StoredPatch) (scripts : List Script) (counts : List ℕ) where
  objects_stored : (p : ℕ) → objects_at (catalog_of names stored scripts counts) p ≡ map (patch_object names) (map (target_in scripts) (targets_at (slice_get stored p)))
  objects_stored p = ap patch_objects (setting_at names stored scripts counts p) ∙ by (slice_get stored p)
    where
      by : (found : Option StoredPatch) → patch_objects (option_map (setting_patch names) (option_map (patch_in scripts) found)) ≡ map (patch_object names) (map (target_in scripts) (targets_at found))
      by None = refl
      by (Some patch) = refl

  object_stored : (p o : ℕ) → slice_get (objects_at (catalog_of names stored scripts counts) p) o
      ≡ option_map (patch_object names) (option_map (target_in scripts) (slice_get (targets_at (slice_get stored p)) o))
  object_stored p o =
      ap (λ os. slice_get os o) (objects_stored p) ∙ slice_get-map (patch_object names) (map (target_in scripts) (targets_at (slice_get stored p))) o
      ∙ ap (option_map (patch_object names)) (slice_get-map (target_in scripts) (targets_at (slice_get stored p)) o)

  script_stored : (p o : ℕ) (which : Which) → script_at (catalog_of names stored scripts counts) p o which ≡ option_map (script_number scripts) (number_of stored p o which)
  script_stored p o which = ap (λ found. script_for which (callbacks_of found)) (object_stored p o) ∙ by (slice_get (targets_at (slice_get stored p)) o)
    where
      by : (found : Option StoredTarget) → script_for which (callbacks_of (option_map (patch_object names) (option_map (target_in scripts) found)))
          ≡ option_map (script_number scripts) (option_and_then (number_in which) found)
      by None = refl
      by (Some target) = script-numbered scripts target.first target.kinds which ∙ ap (option_map (script_number scripts)) (sym (number-from which target))

  targets_object : (object : ℕ) (targets : List StoredTarget) → position (λ (o : PatchObject). o.object == object) (map (patch_object names) (map (target_in scripts) targets))
      ≡ position (λ (t : StoredTarget). t.object == object) targets
  targets_object object targets =
      position-is (λ (o : PatchObject). o.object == object) (map (patch_object names) (map (target_in scripts) targets)) ∙ by 0 targets
      ∙ sym (position-is (λ (t : StoredTarget). t.object == object) targets)
    where
      by : (n : ℕ) (targets : List StoredTarget) → position_from (λ (o : PatchObject). o.object == object) n (map (patch_object names) (map (target_in scripts) targets))
          ≡ position_from (λ (t : StoredTarget). t.object == object) n targets
      by n [] = refl
      by n (target ∷ targets) = ap (cond (target.object == object) (Some n)) (by (n + 1) targets)

  module _ (catalog : Catalog) (view : catalog_of names stored scripts counts ≡ catalog) where
    pub objects_are : (p : ℕ) → objects_at catalog p ≡ map (patch_object names) (map (target_in scripts) (targets_at (slice_get stored p)))
    objects_are p = ap (λ c. objects_at c p) (sym view) ∙ objects_stored p

    pub object_is : (p o : ℕ) → option_map (λ (found : PatchObject). found.object) (slice_get (objects_at catalog p) o)
        ≡ option_map (λ (t : StoredTarget). t.object) (slice_get (targets_at (slice_get stored p)) o)
    object_is p o =
        ap (λ c. option_map (λ (found : PatchObject). found.object) (slice_get (objects_at c p) o)) (sym view)
        ∙ ap (option_map (λ (found : PatchObject). found.object)) (object_stored p o) ∙ by (slice_get (targets_at (slice_get stored p)) o)
      where
        by : (found : Option StoredTarget) → option_map (λ (o : PatchObject). o.object) (option_map (patch_object names) (option_map (target_in scripts) found))
            ≡ option_map (λ (t : StoredTarget). t.object) found
        by None = refl
        by (Some target) = refl

    pub script_is : (p o : ℕ) (which : Which) → script_at catalog p o which ≡ option_map (script_number scripts) (number_of stored p o which)
    script_is p o which = ap (λ c. script_at c p o which) (sym view) ∙ script_stored p o which

    pub place_is : (p object : ℕ) → place_of object (objects_at catalog p) ≡ position (λ (t : StoredTarget). t.object == object) (targets_at (slice_get stored p))
    place_is p object = ap (place_of object) (objects_are p) ∙ targets_object object (targets_at (slice_get stored p))

-- ---- what is kept of the callbacks

slice_get-at : {A : Type 0} (xs : List A) (n : ℕ) (d : A) → n < length xs → slice_get xs n ≡ Some (get_or xs n d)
slice_get-at [] n d lt = absurd (omega arith)
slice_get-at (x ∷ xs) zero d lt = refl
slice_get-at (x ∷ xs) (suc n) d lt = slice_get-at xs n d (omega arith)

-- an item that was read
pub seen_here : {A : Type 0} (xs : List A) (n p : ℕ) (item : A) → n ≡ p → n < length xs → item ≡ get_or xs n item → slice_get xs p ≡ Some item
seen_here xs n p item same lt at = ap (slice_get xs) (sym same) ∙ slice_get-at xs n item lt ∙ ap Some (sym at)

lent_script-at : (callbacks : List LentCallback) (n : ℕ) (d : LentCallback) → n < length callbacks → script_number (lent_scripts callbacks) n ≡ (get_or callbacks n d).script
lent_script-at [] n d lt = absurd (omega arith)
lent_script-at (c ∷ cs) zero d lt = refl
lent_script-at (c ∷ cs) (suc n) d lt = lent_script-at cs n d (omega arith)

lent_count-at : (callbacks : List LentCallback) (n : ℕ) (d : LentCallback) → n < length callbacks → slice_get (lent_counts callbacks) n ≡ Some (get_or callbacks n d).runs
lent_count-at [] n d lt = absurd (omega arith)
lent_count-at (c ∷ cs) zero d lt = refl
lent_count-at (c ∷ cs) (suc n) d lt = lent_count-at cs n d (omega arith)

pub few_allocs : (edits : List Edit) → alloc_count edits ≤ length edits
few_allocs [] = omega arith
few_allocs (edit ∷ edits) = by (is_alloc edit) (few_allocs edits)
  where
    by : (b : Bool) → alloc_count edits ≤ length edits → cond b (1 + alloc_count edits) (alloc_count edits) ≤ suc (length edits)
    by true few = omega arith
    by false few = omega arith

-- in a catalog that is kept so, by the number that is kept of a callback
module _ {names : List ObjectNames} {symbols : List ℕ} (stored : List StoredPatch) (callbacks : List LentCallback) (catalog : Catalog)
    (view : ◌≡◌ {A = Catalog} (record { names = names; patches = patches_in (lent_scripts callbacks) stored; runs = lent_counts callbacks }) catalog)
    (kept : IsStored names symbols stored (lent_scripts callbacks) (lent_counts callbacks)) (p o : ℕ) (which : Which) where
  only : IsOnly (is_callback p o which) 0 (callback_ids (patches_in (lent_scripts callbacks) stored)) (number_of stored p o which)
  only =
      subst (λ s. IsOnly (is_callback p o which) 0 (callback_ids (patches_in (lent_scripts callbacks) stored)) (number_of s p o which)) (sym kept.kept)
      (number_only names (patches_in (lent_scripts callbacks) stored) p o which kept.few.each_within)

  script_found : script_at catalog p o which ≡ option_map (script_number (lent_scripts callbacks)) (number_of stored p o which)
  script_found = script_is names stored (lent_scripts callbacks) (lent_counts callbacks) catalog view p o which

  runs_found : runs_of catalog p o which ≡ option_and_then (slice_get (lent_counts callbacks)) (number_of stored p o which)
  runs_found =
      ap (λ c. runs_of c p o which) (sym view)
      ∙ ap (option_and_then (slice_get (lent_counts callbacks)))
      (position-is (is_callback p o which) (callback_ids (patches_in (lent_scripts callbacks) stored))
      ∙ sym (only-position (is_callback p o which) 0 (callback_ids (patches_in (lent_scripts callbacks) stored)) (number_of stored p o which) only))

  -- whether there is such a callback
  pub is_there : is_some (number_of stored p o which) ≡ is_some (script_at catalog p o which)
  is_there = by (number_of stored p o which) ∙ sym (ap is_some script_found)
    where
      by : (number : Option ℕ) → is_some number ≡ is_some (option_map (script_number (lent_scripts callbacks)) number)
      by None = refl
      by (Some n) = refl

  -- there is no such callback
  module _ (none : None ≡ number_of stored p o which) where
    pub no_script : script_at catalog p o which ≡ None
    no_script = script_found ∙ ap (option_map (script_number (lent_scripts callbacks))) (sym none)

    pub no_runs : runs_of catalog p o which ≡ None
    no_runs = runs_found ∙ ap (option_and_then (slice_get (lent_counts callbacks))) (sym none)

    pub idle : catalog ≡ after_runs catalog (call_of p o which (script_at catalog p o which))
    idle = sym (ap (λ script. after_runs catalog (call_of p o which script)) no_script ∙ add_up.none catalog)

  -- this is its number
  module _ (n : ℕ) (some : Some n ≡ number_of stored p o which) where
    pub within : n < length callbacks
    within =
        let place = only-within (is_callback p o which) 0 (callback_ids (patches_in (lent_scripts callbacks) stored)) n
        (subst (IsOnly (is_callback p o which) 0 (callback_ids (patches_in (lent_scripts callbacks) stored))) (sym some) only) in
        omega (arith, place.1, kept.counted, length-map callbacks (λ (t : LentCallback). t.runs))

    module _ (item : LentCallback) (is : item ≡ get_or callbacks n item) where
      pub the_script : script_at catalog p o which ≡ Some item.script
      the_script =
          script_found ∙ ap (option_map (script_number (lent_scripts callbacks))) (sym some)
          ∙ ap Some (lent_script-at callbacks n item within ∙ sym (ap (λ (t : LentCallback). t.script) is))

      pub the_runs : runs_of catalog p o which ≡ Some item.runs
      the_runs =
          runs_found ∙ ap (option_and_then (slice_get (lent_counts callbacks))) (sym some)
          ∙ lent_count-at callbacks n item within ∙ sym (ap (λ (t : LentCallback). Some t.runs) is)

      module _ (new : LentCallback) (ran : new ≡ record item { runs = counted item.runs }) where
        scripts_stay : lent_scripts (set callbacks n new) ≡ lent_scripts callbacks
        scripts_stay = map-set_same (λ (t : LentCallback). t.script) callbacks n new item (ap (λ (t : LentCallback). t.script) ran ∙ ap (λ (t : LentCallback). t.script) is)

        counts_grow : lent_counts (set callbacks n new)
            ≡ counts_after (record { patch = p; place = o; which = which; script = item.script } ∷ []) (callback_ids (patches_in (lent_scripts callbacks) stored)) (lent_counts callbacks)
        counts_grow =
            one_grows p o which item.script 0 n n (callback_ids (patches_in (lent_scripts callbacks) stored)) callbacks item new
            (subst (IsOnly (is_callback p o which) 0 (callback_ids (patches_in (lent_scripts callbacks) stored))) (sym some) only) (omega arith) within is ran

        pub has_run : ◌≡◌ {A = Catalog} (record { names = names; patches = patches_in (lent_scripts (set callbacks n new)) stored; runs = lent_counts (set callbacks n new) })
            (after_runs catalog (call_of p o which (script_at catalog p o which)))
        has_run =
            (λ i. record { names = names; patches = patches_in (scripts_stay i) stored; runs = counts_grow i })
            ∙ ap (λ c. after_runs c (record { patch = p; place = o; which = which; script = item.script } ∷ [])) view
            ∙ sym (ap (λ script. after_runs catalog (call_of p o which script)) the_script)

        pub kept_so : IsStored names symbols stored (lent_scripts (set callbacks n new)) (lent_counts (set callbacks n new))
        kept_so =
            subst (λ scripts. IsStored names symbols stored scripts (lent_counts (set callbacks n new))) (sym scripts_stay)
            (record {
              sizes = kept.sizes;
              kept = kept.kept;
              few = kept.few;
              apart = kept.apart;
              counted = omega (
                arith,
                kept.counted,
                length-map callbacks (λ (t : LentCallback). t.runs),
                length-map (set callbacks n new) (λ (t : LentCallback). t.runs),
                length-set callbacks n new,
              );
            })

-- ---- what a run changes

-- nothing, where nothing runs
pub idle_changes : (patch place : ℕ) (which : Which) (world : World) (log : RecordList) (script : Option Script) → script ≡ None
    → Changes world world log log (after_calls world (call_of patch place which script)) (rows_if patch world script)
idle_changes patch place which world log script none =
    subst (λ s. Changes world world log log (after_calls world (call_of patch place which s)) (rows_if patch world s)) (sym none)
    (record { world = refl; records = ap (λ (rows : List Record). record log { logged = rows }) (sym (append-nil log.logged)); undo = refl; effective = tt })

pub run_changes : (patch place : ℕ) (which : Which) (world after : World) (log log_after : RecordList) (script : Option Script) (own : Script) → script ≡ Some own
    → Changes world after log log_after (effect patch world own) (rows_of_script patch world own)
    → Changes world after log log_after (after_calls world (call_of patch place which script)) (rows_if patch world script)
run_changes patch place which world after log log_after script own some changes =
    subst (λ s. Changes world after log log_after (after_calls world (call_of patch place which s)) (rows_if patch world s)) (sym some) changes
