-- The first place of a list at which a test passes.
use Rattle.std.proofs.Common.{◌≡◌, ℕ, zero, suc, ◌+◌, ◌<◌, ◌≤◌, Bool, true, false, not, cond, ltb, List, [], ◌∷◌, length, Option, Some, None, refl, sym, subst, arith}
use Rattle.std.specs.List.{position, prefix_len}
use Rattle.std.proofs.lemmas.Bool.{ltb-true, ltb-false}

-- the test passes at this place, and at none before
abbrev pub FirstAt : {A : Type 0} → (A → Bool) → List A → ℕ → Type 0
FirstAt test [] place = ⊥
FirstAt test (x ∷ xs) zero = test x ≡ true
FirstAt test (x ∷ xs) (suc place) = (test x ≡ false) × FirstAt test xs place

-- the test passes nowhere
abbrev pub Nowhere : {A : Type 0} → (A → Bool) → List A → Type 0
Nowhere test [] = Unit {0}
Nowhere test (x ∷ xs) = (test x ≡ false) × Nowhere test xs

-- what a search for the first place answers
abbrev pub IsFirstPlace : {A : Type 0} → (A → Bool) → List A → Option ℕ → Type 0
IsFirstPlace test xs None = Nowhere test xs
IsFirstPlace test xs (Some place) = FirstAt test xs place

abbrev failing : {A : Type 0} → (A → Bool) → List A → ℕ
failing test xs = prefix_len (λ x. not (test x)) xs

first_at : {A : Type 0} (test : A → Bool) (xs : List A) → failing test xs < length xs → FirstAt test xs (failing test xs)
first_at test [] lt = absurd (omega arith)
first_at test (x ∷ xs) lt =
    elim (test x) as (λ b. test x ≡ b → cond (not b) (1 + failing test xs) 0 < suc (length xs) → FirstAt test (x ∷ xs) (cond (not b) (1 + failing test xs) 0)) [
      | true ↦ λ e lt. e
      | false ↦ λ e lt.
          let later : suc (failing test xs) ≡ 1 + failing test xs = omega arith in
          let here : FirstAt test (x ∷ xs) (suc (failing test xs)) = (e, first_at test xs (omega arith)) in
          subst (FirstAt test (x ∷ xs)) later here
    ] refl lt

nowhere : {A : Type 0} (test : A → Bool) (xs : List A) → length xs ≤ failing test xs → Nowhere test xs
nowhere test [] le = tt
nowhere test (x ∷ xs) le =
    elim (test x) as (λ b. test x ≡ b → suc (length xs) ≤ cond (not b) (1 + failing test xs) 0 → (b ≡ false) × Nowhere test xs) [
      | true ↦ λ e le. absurd (omega arith)
      | false ↦ λ e le. (refl, nowhere test xs (omega arith))
    ] refl le

pub first_place : {A : Type 0} (test : A → Bool) (xs : List A) (result : Option ℕ) → result ≡ position test xs → IsFirstPlace test xs result
first_place test xs result e =
    let n = failing test xs in
    subst (IsFirstPlace test xs) (sym e) (elim (ltb n (length xs)) as (λ b. ltb n (length xs) ≡ b → IsFirstPlace test xs (cond b (Some n) None)) [
      | true ↦ λ t. first_at test xs (ltb-true _ _ t)
      | false ↦ λ t. nowhere test xs (ltb-false _ _ t)
    ] refl)
