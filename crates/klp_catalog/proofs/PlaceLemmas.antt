-- An object stands among those of a patch at most once.
use Rattle.std.proofs.Common.{◌≡◌, ℕ, zero, suc, ◌+◌, ◌≤◌, Bool, true, false, cond, List, [], ◌∷◌, map, slice_get, refl, sym, ap, ◌∙◌, eqb-true, arith}
use Rattle.std.specs.Prelude.{◌==◌, ◌||◌}
use Rattle.std.specs.List.{AllByRecursion, list_any, count_by}
use Rattle.std.proofs.lemmas.List.Sums.{sum_by-cons}
use Rattle.std.proofs.lemmas.Option.{slice_get-map}
use Rattle.klp_types.specs.Setting.{PatchObject, patch_objects}
use Rattle.klp_modules.specs.Names.{ObjectNames}
use Rattle.klp_catalog_text.specs.Plan.{PlanTarget, PlanPatch}
use Rattle.klp_catalog_text.specs.Limits.{has_same, target_number}
use Rattle.klp_catalog.specs.Catalog.{targets_of_patch, patch_object, setting_patch}
use Rattle.klp_catalog.specs.Limits.{IsWithin}
use Rattle.klp_catalog.proofs.CatalogLemmas.{objects_in_patch}

module _ (names : List ObjectNames) (object : ℕ) where
  -- how many of the objects are this one
  abbrev copies : List PlanTarget → ℕ
  copies targets = count_by (λ (o : PatchObject). o.object == object) (map (patch_object names) targets)

  copies-cons : (target : PlanTarget) (targets : List PlanTarget) → copies (target ∷ targets) ≡ cond (target.object == object) 1 0 + copies targets
  copies-cons target targets = sum_by-cons (λ (o : PatchObject). cond (o.object == object) 1 0) (patch_object names target) (map (patch_object names) targets)

  absent : (targets : List PlanTarget) → list_any (λ (t : PlanTarget). t.object == object) targets ≡ false → copies targets ≡ 0
  absent [] none = refl
  absent (target ∷ targets) none = copies-cons target targets ∙ by (absent targets) (target.object == object) none
    where
      by : (list_any (λ (t : PlanTarget). t.object == object) targets ≡ false → copies targets ≡ 0)
          → (b : Bool) → (b || list_any (λ (t : PlanTarget). t.object == object) targets) ≡ false → cond b 1 0 + copies targets ≡ 0
      by later true wrong = let no : ⊥ = cc in absurd no
      by later false rest = let others = later rest in omega (arith, others)

  once : (targets : List PlanTarget) → has_same target_number targets ≡ false → copies targets ≤ 1
  once [] distinct = omega arith
  once (target ∷ targets) distinct = by (once targets) (list_any (λ (t : PlanTarget). t.object == target.object) targets) refl distinct (target.object == object) refl
    where
      by : (has_same target_number targets ≡ false → copies targets ≤ 1)
          → (same : Bool) → list_any (λ (t : PlanTarget). t.object == target.object) targets ≡ same → (same || has_same target_number targets) ≡ false
          → (own : Bool) → (target.object == object) ≡ own → copies (target ∷ targets) ≤ 1
      by later true is wrong own e = let no : ⊥ = cc in absurd no
      by later false is rest true e =
          let others = absent targets (ap (λ n. list_any (λ (t : PlanTarget). t.object == n) targets) (sym (eqb-true target.object object e)) ∙ is) in
          let first : cond {A = ℕ} (target.object == object) 1 0 ≡ cond {A = ℕ} true 1 0 = ap (λ b. cond {A = ℕ} b 1 0) e in
          omega (arith, copies-cons target targets, first, others)
      by later false is rest false e =
          let others = later rest in
          let first : cond {A = ℕ} (target.object == object) 1 0 ≡ cond {A = ℕ} false 1 0 = ap (λ b. cond {A = ℕ} b 1 0) e in
          omega (arith, copies-cons target targets, first, others)

  distinct_at : (patches : List PlanPatch) (p : ℕ) → AllByRecursion IsWithin patches → has_same target_number (targets_of_patch (slice_get patches p)) ≡ false
  distinct_at [] p small = refl
  distinct_at (patch ∷ patches) zero small = small.0.distinct_targets
  distinct_at (patch ∷ patches) (suc p) small = distinct_at patches p small.1

  pub object_once : (patches : List PlanPatch) (p : ℕ) → AllByRecursion IsWithin patches
      → count_by (λ (o : PatchObject). o.object == object) (patch_objects (slice_get (map (setting_patch names) patches) p)) ≤ 1
  object_once patches p small =
      let is = ap (λ os. count_by (λ (o : PatchObject). o.object == object) os)
      (ap patch_objects (slice_get-map (setting_patch names) patches p) ∙ objects_in_patch names (slice_get patches p))
      in
      let few = once (targets_of_patch (slice_get patches p)) (distinct_at patches p small) in
      omega (arith, is, few)
