-- The entries of sites when a transition is complete.
use Rattle.std.proofs.Common.{◌≡◌, ℕ, ◌≤◌, Bool, cond, true, false, ◌&&◌, List, [], ◌∷◌, filter, refl, sym, ap, ◌∙◌, arith}
use Rattle.std.specs.Prelude.{not, ◌==◌, if◌then◌else◌, is_none}
use Rattle.std.specs.List.{count_by}
use Rattle.std.proofs.lemmas.List.Sums.{sum_by-cons}
use Rattle.klp_types.specs.declared.version.Entry.{Entry}
use Rattle.klp_model.specs.Allowed.{is_one_of}
use Rattle.klp_catalog.specs.States as numbers
use Rattle.klp_patch.specs.Changes.{without_nop}
use Rattle.klp_patch_events.proofs.CompleteLemmas.{without_all}

-- elsewhere there is no entry
pub nowhere_else : (f : List Entry → List Entry) → f [] ≡ [] → (covered loaded : Bool) → covered ≡ loaded → (entries here : List Entry) → entries ≡ (if loaded then here else [])
    → (if covered then f entries else entries) ≡ f entries
nowhere_else f empty true loaded same entries here are = refl
nowhere_else f empty false loaded same entries here are =
    let none : entries ≡ [] = are ∙ ap (λ b. if b then here else []) (sym same) in
    none ∙ sym empty ∙ sym (ap f none)

-- the entries of older patches are taken away, and the nops of this one
pub both_out : (older : List ℕ) (patch : ℕ) (entries : List Entry)
    → without_nop patch (without_all older entries) ≡ filter (λ (e : Entry). not (is_one_of e.patch older) && not (e.patch == patch && is_none e.func)) entries
both_out older patch [] = refl
both_out older patch (e ∷ entries) =
    let rest = both_out older patch entries in
    elim (is_one_of e.patch older) as (λ b. without_nop patch (if not b then e ∷ without_all older entries else without_all older entries)
    ≡ (if not b && not (e.patch == patch && is_none e.func) then e ∷ filter (λ (e : Entry). not (is_one_of e.patch older) && not (e.patch == patch && is_none e.func)) entries
    else filter (λ (e : Entry). not (is_one_of e.patch older) && not (e.patch == patch && is_none e.func)) entries)) [
      | true ↦ rest
      | false ↦ ap (λ es. if not (e.patch == patch && is_none e.func) then e ∷ es else es) rest
    ]

-- of those before a patch no more pass than of all
pub count_before : (test : ℕ → Bool) (patch : ℕ) (patches : List ℕ) → count_by test (numbers.installed_before patch patches) ≤ count_by test patches
count_before test patch [] = omega arith
count_before test patch (p ∷ patches) =
    let rest = count_before test patch patches in
    let all = sum_by-cons (λ q. cond (test q) 1 0) p patches in
    let some = sum_by-cons (λ q. cond (test q) 1 0) p (numbers.installed_before patch patches) in
    elim (p == patch) as (λ b. count_by test (if b then [] else p ∷ numbers.installed_before patch patches) ≤ count_by test (p ∷ patches)) [
      | true ↦ omega arith
      | false ↦ omega (arith, rest, all, some)
    ]
