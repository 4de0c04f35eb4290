-- Tables that have a number of rows, read one by one.
use Rattle.std.proofs.Common.{◌≡◌, ℕ, zero, suc, ◌+◌, ◌-◌, ◌<◌, ◌≤◌, Bool, ◌||◌, List, [], ◌∷◌, ◌++◌, length, map, Option, Some, None, Result, Ok, Err, refl, sym, ap, ◌∙◌, subst, arith, add-one, inl, inr, ◌⊎◌, length-append}
use Rattle.std.proofs.lemmas.List.{length-map, map-append}
use Rattle.std.proofs.lemmas.List.Concat.{flat_map-append}
use Rattle.std.specs.List.{flat_map, list_any}
use Rattle.klp_tables.specs.Counted.{TargetFacts, rows_below, target_meaning}
use Rattle.klp_tables.specs.KlpBuild.{functions_in_target, room_after}
use Rattle.klp_tables.specs.Steps.{◌>>=◌}
use Rattle.klp_tables.specs.declared.fault.TableFault.{TableFault}
use Rattle.klp_tables.specs.declared.patch.Object.{Object}

module _ {R : Type 0} (row : ℕ → List R → Result R TableFault) where
  step : (k : ℕ) (rows : List R) (next : R) → rows_below row k ≡ Ok rows → row k rows ≡ Ok next → rows_below row (suc k) ≡ Ok (rows ++ next ∷ [])
  step k rows next before here =
      ap (λ r. r >>= λ rs. row k rs >>= λ x. Ok (rs ++ x ∷ [])) before ∙ ap (λ r. r >>= λ x. Ok (rows ++ x ∷ [])) here

  stop : (k : ℕ) (rows : List R) (fault : TableFault) → rows_below row k ≡ Ok rows → row k rows ≡ Err fault → rows_below row (suc k) ≡ Err fault
  stop k rows fault before here =
      ap (λ r. r >>= λ rs. row k rs >>= λ x. Ok (rs ++ x ∷ [])) before ∙ ap (λ r. r >>= λ x. Ok (rows ++ x ∷ [])) here

  below_or_last : (k n : ℕ) → k < suc n → (k < n) ⊎ (k ≡ n)
  below_or_last k n h = grind arith

  last : (k n : ℕ) (rows : List R) (fault : TableFault) → rows_below row k ≡ Ok rows → row k rows ≡ Err fault
      → (k < n → rows_below row n ≡ Err fault) → (k < n) ⊎ (k ≡ n) → rows_below row (suc n) ≡ Err fault
  last k n rows fault before here earlier (inl less) = ap (λ r. r >>= λ rs. row n rs >>= λ x. Ok (rs ++ x ∷ [])) (earlier less)
  last k n rows fault before here earlier (inr same) = ap (λ m. rows_below row (suc m)) (sym same) ∙ stop k rows fault before here

  -- no row behind one that fails mends it
  pub fails_for_all : (k n : ℕ) (rows : List R) (fault : TableFault) → rows_below row k ≡ Ok rows → row k rows ≡ Err fault → k < n
      → rows_below row n ≡ Err fault
  fails_for_all k zero rows fault before here h = absurd (omega arith)
  fails_for_all k (suc n) rows fault before here h =
      last k n rows fault before here (λ less. fails_for_all k n rows fault before here less) (below_or_last k n h)

  -- one more row was read and kept
  pub one_more_row : {A : Type 0} (f : A → R) (k : ℕ) (xs ys : List A) (x : A) → rows_below row k ≡ Ok (map f xs)
      → row k (map f xs) ≡ Ok (f x) → ys ≡ xs ++ x ∷ [] → rows_below row (k + 1) ≡ Ok (map f ys)
  one_more_row {A} f k xs ys x before here e =
      ap (rows_below row) (add-one k) ∙ step k (map f xs) (f x) before here
      ∙ ap (λ rs. Ok rs) (sym (map-append f xs (x ∷ []))) ∙ ap (λ (zs : List A). Ok (map f zs)) (sym e)

-- an object more leaves room for so many functions less
pub room_less : (xs ys : List Object) (x : Object) (room : ℕ) → room ≡ room_after (map target_meaning xs) → ys ≡ xs ++ x ∷ []
    → room - length x.functions.items ≡ room_after (map target_meaning ys)
room_less xs ys x room is e =
    rw (
      e,
      map-append target_meaning xs (x ∷ []),
      flat_map-append functions_in_target (map target_meaning xs) (map target_meaning (x ∷ [])),
      length-append (flat_map functions_in_target (map target_meaning xs)) (flat_map functions_in_target (map target_meaning (x ∷ []))),
      is,
    )
    (simp (length-append, length-map) (omega arith))

-- an element of a map passes a test exactly if what it is made of does
pub any_map : {X Y : Type 0} (p : Y → Bool) (f : X → Y) (xs : List X) → list_any p (map f xs) ≡ list_any (λ x. p (f x)) xs
any_map p f [] = refl
any_map p f (x ∷ xs) = ap (λ (b : Bool). p (f x) || b) (any_map p f xs)
