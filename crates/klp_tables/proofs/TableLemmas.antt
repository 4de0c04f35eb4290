-- Tables whose rows are read one by one.
use Rattle.std.proofs.Common.{◌≡◌, ℕ, zero, suc, ◌+◌, ◌<◌, ◌≤◌, List, [], ◌∷◌, ◌++◌, length, map, slice_get, Option, Some, None, Result, Ok, Err, refl, sym, ap, ◌∙◌, subst, arith, ⊎_elim, inl, inr, ◌⊎◌, length-append}
use Rattle.std.proofs.lemmas.List.{map-append, length-map}
use Rattle.std.proofs.lemmas.Option.{slice_get_past}
use Rattle.std.proofs.lemmas.Grind.{common_steps}
use Rattle.klp_tables.specs.Rows.{row_place, IsBegun, IsTable}
use Rattle.klp_elf.specs.declared.look.Place.{Place}
use Rattle.klp_tables.specs.declared.fault.TableFault.{TableFault}

slice_get-front : {X : Type 0} (xs ys : List X) (i : ℕ) → i < length xs → slice_get (xs ++ ys) i ≡ slice_get xs i
slice_get-front [] ys i h = absurd (omega arith)
slice_get-front (x ∷ xs) ys zero h = refl
slice_get-front (x ∷ xs) ys (suc i) h = slice_get-front xs ys i (omega arith)

slice_get-next : {X : Type 0} (xs : List X) (x : X) → slice_get (xs ++ x ∷ []) (length xs) ≡ Some x
slice_get-next [] x = refl
slice_get-next (y ∷ xs) x = slice_get-next xs x

more : {R : Type 0} (row : ℕ → Result (Option R) TableFault) (rows : List R) (x : R) → IsBegun row rows → row (length rows) ≡ Ok (Some x)
    → (j : ℕ) → (j < length rows) ⊎ (j ≡ length rows) → row j ≡ Ok (slice_get (rows ++ x ∷ []) j)
more row rows x begun next j (inl h) = begun j h ∙ ap (λ o. Ok o) (sym (slice_get-front rows (x ∷ []) j h))
more row rows x begun next j (inr h) = ap row h ∙ next ∙ ap (λ o. Ok o) (sym (slice_get-next rows x)) ∙ ap (λ n. Ok (slice_get (rows ++ x ∷ []) n)) (sym h)

below_or_last : (j n : ℕ) → j < n + 1 → (j < n) ⊎ (j ≡ n)
below_or_last j n h = grind arith

one_more : {R : Type 0} (row : ℕ → Result (Option R) TableFault) (rows : List R) (x : R) → IsBegun row rows → row (length rows) ≡ Ok (Some x)
    → IsBegun row (rows ++ x ∷ [])
one_more row rows x begun next j h = more row rows x begun next j (below_or_last j (length rows) (simp length-append at h))

-- the next row of a table
pub begun_more : {A R : Type 0} (f : A → R) (row : ℕ → Result (Option R) TableFault) (xs : List A) (x : A) → IsBegun row (map f xs)
    → row (length xs) ≡ Ok (Some (f x)) → IsBegun row (map f (xs ++ x ∷ []))
begun_more f row xs x begun next =
    subst (IsBegun row) (sym (map-append f xs (x ∷ [])))
    (one_more row (map f xs) (f x) begun (ap row (length-map xs f) ∙ next))

table_at : {R : Type 0} (row : ℕ → Result (Option R) TableFault) (rows : List R) → IsBegun row rows → row (length rows) ≡ Ok None
    → (k : ℕ) → (k < length rows) ⊎ (k ≡ length rows) → row k ≡ Ok (slice_get rows k)
table_at row rows begun end k (inl h) = begun k h
table_at row rows begun end k (inr h) = ap row h ∙ end ∙ ap (λ o. Ok o) (sym (slice_get_past rows k (omega arith)))

up_to : (k n : ℕ) → k ≤ n → (k < n) ⊎ (k ≡ n)
up_to k n h = grind arith

-- the empty row ends a table
pub table_ends : {A R : Type 0} (f : A → R) (row : ℕ → Result (Option R) TableFault) (xs : List A) → IsBegun row (map f xs)
    → row (length xs) ≡ Ok None → IsTable row (map f xs)
table_ends f row xs begun end k h = table_at row (map f xs) begun (ap row (length-map xs f) ∙ end) k (up_to k (length (map f xs)) h)

-- what is read at the place of a row is that row
pub row_here : {R : Type 0} (at : Place → Result (Option R) TableFault) (table : Place) (width n k : ℕ) (place : Place)
    (r : Result (Option R) TableFault) → n ≡ k → place ≡ row_place table width k → at place ≡ r → at (row_place table width n) ≡ r
row_here at table width n k place r e p h = ap (λ m. at (row_place table width m)) e ∙ ap at (sym p) ∙ h

-- a table of which one more row was read and kept
pub begun_by : {A R : Type 0} (f : A → R) (row : ℕ → Result (Option R) TableFault) (xs ys : List A) (x : A) → IsBegun row (map f xs)
    → row (length xs) ≡ Ok (Some (f x)) → ys ≡ xs ++ x ∷ [] → IsBegun row (map f ys)
begun_by {A = A} f row xs ys x begun next e = subst (λ (zs : List A). IsBegun row (map f zs)) (sym e) (begun_more f row xs x begun next)

pub longer_by : {A : Type 0} (xs ys : List A) (x : A) (k : ℕ) → length xs ≡ k → ys ≡ xs ++ x ∷ [] → length ys ≡ k + 1
longer_by xs ys x k count e = ap length e ∙ simp length-append (omega arith)

-- the same for rows that are kept as they are
pub begun_with : {R : Type 0} (row : ℕ → Result (Option R) TableFault) (xs ys : List R) (x : R) → IsBegun row xs
    → row (length xs) ≡ Ok (Some x) → ys ≡ xs ++ x ∷ [] → IsBegun row ys
begun_with {R = R} row xs ys x begun next e = subst (λ (zs : List R). IsBegun row zs) (sym e) (one_more row xs x begun next)

pub table_ends_with : {R : Type 0} (row : ℕ → Result (Option R) TableFault) (xs : List R) → IsBegun row xs
    → row (length xs) ≡ Ok None → IsTable row xs
table_ends_with row xs begun end k h = table_at row xs begun end k (up_to k (length xs) h)
