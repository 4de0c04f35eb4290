-- The targets of a plan that act are the objects that take part.
use Rattle.std.proofs.Common.{◌≡◌, ℕ, suc, ◌+◌, Bool, true, false, cond, not, List, [], ◌∷◌, map, take, Option, Some, None, refl, sym, ap, ◌∙◌, arith}
use Rattle.std.specs.Prelude.{slice_get, option_map, filter}
use Rattle.std.specs.List.{before_first, position_or_len, enumerate_from}
use Rattle.std.proofs.lemmas.Option.{slice_get-map}
use Rattle.klp_types.specs.Setting.{Setting, Patch, PatchObject, patch_objects}
use Rattle.klp_types.specs.Callbacks.{refuses}
use Rattle.klp_modules.specs.Names.{ModuleTable, ObjectNames, names_of}
use Rattle.klp_catalog_text.specs.Plan.{PlanTarget, PlanPatch}
use Rattle.klp_catalog.specs.Catalog.{patch_object, setting_patch, targets_of_patch}
use Rattle.klp_model.specs.State.{State, is_flagged}
use Rattle.klp_model.specs.Company.{taking_part}
use Rattle.klp_lint.specs.Acting.{acting}
use Rattle.klp_lint.specs.Premises.{ArePatchesOf}

before_first-cons : {A : Type 0} (p : A → Bool) (x : A) (xs : List A) → before_first p (x ∷ xs) ≡ cond (p x) [] (x ∷ before_first p xs)
before_first-cons p x xs =
    elim (p x) as (λ b. take (cond (not b) (1 + position_or_len p xs) 0) (x ∷ xs) ≡ cond b [] (x ∷ before_first p xs)) [
      | true ↦ refl
      | false ↦ let next : 1 + position_or_len p xs ≡ suc (position_or_len p xs) = omega arith in ap (λ n. take n (x ∷ xs)) next
    ]

-- the objects that take part among these, of which the first has this index
abbrev part : ModuleTable → ℕ → List PlanTarget → List (ℕ × PatchObject)
part modules place targets =
    before_first refuses (filter (λ (o : ℕ × PatchObject). is_flagged modules.loaded o.1.object) (enumerate_from place (map (patch_object modules.names) targets)))

acting-part : (modules : ModuleTable) (place : ℕ) (targets : List PlanTarget) → acting modules place targets ≡ part modules place targets
acting-part modules place [] = refl
acting-part modules place (target ∷ targets) =
    let object = patch_object modules.names target in
    let rest = filter (λ (o : ℕ × PatchObject). is_flagged modules.loaded o.1.object) (enumerate_from (place + 1) (map (patch_object modules.names) targets)) in
    let more = acting-part modules (place + 1) targets in
    elim (is_flagged modules.loaded object.object) as (λ b.
    cond b (cond (refuses (place, object)) [] ((place, object) ∷ acting modules (place + 1) targets)) (acting modules (place + 1) targets)
    ≡ before_first refuses (cond b ((place, object) ∷ rest) rest)) [
      | true ↦ ap (λ l. cond (refuses (place, object)) [] ((place, object) ∷ l)) more ∙ sym (before_first-cons refuses (place, object) rest)
      | false ↦ more
    ]

objects : (names : List ObjectNames) (patch : Option PlanPatch) → map (patch_object names) (targets_of_patch patch) ≡ patch_objects (option_map (setting_patch names) patch)
objects names None = refl
objects names (Some patch) = refl

pub acting_takes_part : (setting : Setting) (state : State) (patches : List PlanPatch) (patch : ℕ) → ArePatchesOf setting patches
    → acting (record { names = names_of setting.image.objects; loaded = state.loaded }) 0 (targets_of_patch (slice_get patches patch)) ≡ taking_part setting state patch
acting_takes_part setting state patches patch over =
    let names = names_of setting.image.objects in
    let modules : ModuleTable = record { names = names; loaded = state.loaded } in
    let look : List PatchObject → List (ℕ × PatchObject) =
    λ l. before_first refuses (filter (λ (o : ℕ × PatchObject). is_flagged state.loaded o.1.object) (enumerate_from 0 l)) in
    acting-part modules 0 (targets_of_patch (slice_get patches patch))
    ∙ ap look (objects names (slice_get patches patch)
    ∙ ap patch_objects (sym (slice_get-map (setting_patch names) patches patch))
    ∙ ap (λ (l : List Patch). patch_objects (slice_get l patch)) (sym over))
