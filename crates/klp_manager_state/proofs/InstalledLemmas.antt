-- The list of installed patches, with one more and without it again.
use Rattle.std.proofs.Common.{◌≡◌, ℕ, zero, suc, ◌<◌, Bool, cond, true, false, ◌||◌, List, [], ◌∷◌, ◌++◌, length, map, refl, ap, ◌∙◌, arith, eqb}
use Rattle.std.specs.Prelude.{◌==◌, slice_index_or}
use Rattle.std.specs.List.{AllByRecursion, IsDistinct, list_any}
use Rattle.std.specs.Cmp.{nat_eq_equiv}
use Rattle.std.proofs.lemmas.List.{map-append}
use Rattle.std.proofs.lemmas.Map.Keys.{IsDistinct-cons}
use Rattle.std.proofs.lemmas.Map.Steps.{length-le_from_distinct_below}
use Rattle.std.proofs.lemmas.Bool.{or_parts}
use Rattle.klp_types.specs.Setting.{Setting}
use Rattle.klp_types.specs.World.{Installed, World, with_patch, without_patch, taken_out}
use Rattle.klp_model.specs.Refusals.{has_patch}
use Rattle.klp_model.specs.Allowed.{is_one_of, AreDistinct, AreKnown}
use borrow.Author.Tests.{eqb-true, ltb-true}

abbrev pub numbers_of : World → List ℕ
numbers_of world = map (λ (i : Installed). i.patch) world.installed

pub any-numbers : (patch : ℕ) (installed : List Installed)
    → list_any (λ p. p == patch) (map (λ (i : Installed). i.patch) installed) ≡ list_any (λ (i : Installed). i.patch == patch) installed
any-numbers patch [] = refl
any-numbers patch (i ∷ installed) = ap (λ any. (i.patch == patch) || any) (any-numbers patch installed)

-- a patch is put last

pub numbers-with : (world : World) (patch : ℕ) (ids : List ℕ) → numbers_of (with_patch world patch ids) ≡ numbers_of world ++ patch ∷ []
numbers-with world patch ids = map-append (λ (i : Installed). i.patch) world.installed (record { patch = patch; values = map (λ id. (id, 0)) ids } ∷ [])

-- and is taken out again

abbrev pub taken_number : ℕ → List ℕ → List ℕ
taken_number patch [] = []
taken_number patch (first ∷ newer) = cond (first == patch) newer (first ∷ taken_number patch newer)

pub numbers-taken : (patch : ℕ) (installed : List Installed)
    → map (λ (i : Installed). i.patch) (taken_out patch installed) ≡ taken_number patch (map (λ (i : Installed). i.patch) installed)
numbers-taken patch [] = refl
numbers-taken patch (first ∷ newer) =
    elim (first.patch == patch) as (λ b. map (λ (i : Installed). i.patch) (cond b newer (first ∷ taken_out patch newer))
    ≡ cond b (map (λ (i : Installed). i.patch) newer) (first.patch ∷ taken_number patch (map (λ (i : Installed). i.patch) newer))) [
      | true ↦ refl
      | false ↦ ap (λ rest. first.patch ∷ rest) (numbers-taken patch newer)
    ]

taken-last : (patch : ℕ) (before : List ℕ) → list_any (λ p. p == patch) before ≡ false → taken_number patch (before ++ patch ∷ []) ≡ before
taken-last patch [] apart = ap (λ b. cond b [] (patch ∷ [])) (nat_eq_equiv.refl patch)
taken-last patch (p ∷ before) apart =
    elim (p == patch) as (λ b. (b || list_any (λ p. p == patch) before) ≡ false → cond b (before ++ patch ∷ []) (p ∷ taken_number patch (before ++ patch ∷ [])) ≡ p ∷ before) [
      | true ↦ λ no. let never : ⊥ = cc in absurd never
      | false ↦ λ others. ap (λ rest. p ∷ rest) (taken-last patch before others)
    ] apart

pub gone-again : (patch : ℕ) (world : World) (before : List ℕ) → numbers_of world ≡ before ++ patch ∷ [] → list_any (λ p. p == patch) before ≡ false
    → numbers_of (without_patch world patch) ≡ before
gone-again patch world before last apart = numbers-taken patch world.installed ∙ ap (taken_number patch) last ∙ taken-last patch before apart

-- patches of the catalog, among which one isn't, are fewer than its patches

apart_each : (patch : ℕ) (patches : List ℕ) → is_one_of patch patches ≡ false → AllByRecursion (λ y. eqb patch y ≡ false) patches
apart_each patch [] apart = tt
apart_each patch (p ∷ patches) apart =
    (nat_eq_equiv.symm patch p ∙ (or_parts (p == patch) (is_one_of patch patches) apart).0, apart_each patch patches (or_parts (p == patch) (is_one_of patch patches) apart).1)

distinct_keys : (patches : List ℕ) → AreDistinct patches → IsDistinct eqb patches
unfolding IsDistinct
distinct_keys [] distinct = tt
distinct_keys (p ∷ patches) distinct = IsDistinct-cons eqb p patches (apart_each p patches distinct.0) (distinct_keys patches distinct.1)

known_at : (setting : Setting) (p q : ℕ) (patches : List ℕ) (same : Bool) → eqb q p ≡ same → has_patch setting p ≡ true
    → (list_any (eqb q) patches ≡ true → q < length setting.patches) → (same || list_any (eqb q) patches) ≡ true → q < length setting.patches
known_at setting p q patches true is known others among = let at : q ≡ p = eqb-true q p is in rw at (ltb-true p (length setting.patches) known)
known_at setting p q patches false is known others among = others among

known_below : (setting : Setting) (patches : List ℕ) → AreKnown setting patches → (q : ℕ) → list_any (eqb q) patches ≡ true → q < length setting.patches
known_below setting [] known q among = let no : ⊥ = cc in absurd no
known_below setting (p ∷ patches) known q among = known_at setting p q patches (eqb q p) refl known.0 (known_below setting patches known.1 q) among

pub fewer : (setting : Setting) (patches : List ℕ) (patch : ℕ) → AreDistinct patches → AreKnown setting patches → is_one_of patch patches ≡ false
    → has_patch setting patch ≡ true → length patches < length setting.patches
fewer setting patches patch distinct known apart there =
    length-le_from_distinct_below (patch ∷ patches) (length setting.patches) (distinct_keys (patch ∷ patches) (apart, distinct)) (known_below setting (patch ∷ patches) (there, known))

-- each installed patch is one of the catalog's
pub known_each : (setting : Setting) (patches : List ℕ) → AreKnown setting patches → (k d : ℕ) → k < length patches → slice_index_or patches k d < length setting.patches
known_each setting [] known k d below = absurd (omega (arith, below))
known_each setting (p ∷ patches) known zero d below = ltb-true p (length setting.patches) known.0
known_each setting (p ∷ patches) known (suc k) d below = known_each setting patches known.1 k d (omega (arith, below))
