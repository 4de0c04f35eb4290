-- Sets of functions.
use Rattle.std.proofs.Common.{◌≡◌, ◌⊎◌, ℕ, zero, suc, Bool, true, false, List, [], ◌∷◌, replicate, slice_set, slice_index_or, refl, ap, inl, inr}

-- a set without functions has none
pub none_in : (size number : ℕ) → slice_index_or (replicate size false) number false ≡ false
none_in zero number = refl
none_in (suc size) zero = refl
none_in (suc size) (suc number) = none_in size number

-- a function was added
pub set_more : (flags : List Bool) (number other : ℕ) → slice_index_or (slice_set flags number true) other false ≡ true
    → (slice_index_or flags other false ≡ true) ⊎ (other ≡ number)
set_more [] number other is = absurd (cc is)
set_more (flag ∷ flags) zero zero is = inr refl
set_more (flag ∷ flags) zero (suc other) is = inl is
set_more (flag ∷ flags) (suc number) zero is = inl is
set_more (flag ∷ flags) (suc number) (suc other) is =
    elim (set_more flags number other is) as (λ _. (slice_index_or flags other false ≡ true) ⊎ (suc other ≡ suc number)) [
      | inl was ↦ inl was
      | inr same ↦ inr (ap suc same)
    ]

-- the same, if it belongs there
pub inserted : (before after : List Bool) (number : ℕ) (belongs : Bool) → belongs ≡ true
    → ((other : ℕ) → slice_index_or after other false ≡ true → (slice_index_or before other false ≡ true) ⊎ (other ≡ number))
    → (other : ℕ) → slice_index_or after other false ≡ true → (slice_index_or before other false ≡ true) ⊎ ((other ≡ number) × (belongs ≡ true))
inserted before after number belongs does more other is =
    elim (more other is) as (λ _. (slice_index_or before other false ≡ true) ⊎ ((other ≡ number) × (belongs ≡ true))) [
      | inl was ↦ inl was
      | inr same ↦ inr (same, does)
    ]
