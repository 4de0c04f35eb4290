-- No installed patch lacks a symbol of a loaded object, whatever comes and goes.
use Rattle.std.proofs.Common.{◌≡◌, ◌⊎◌, inl, inr, ℕ, zero, suc, ◌+◌, Bool, true, false, ◌&&◌, ◌||◌, cond, List, [], ◌∷◌, ◌++◌, refl, sym, ap, ◌∙◌}
use Rattle.std.specs.Prelude.{◌==◌, slice_index_or, slice_set}
use Rattle.std.specs.List.{list_any, filter, enumerate_from, flat_map}
use Rattle.std.proofs.lemmas.Bool.{eq-eqb, or_parts}
use Rattle.std.proofs.lemmas.List.Folds.{list_any-append}
use Rattle.klp_types.specs.Setting.{Setting, PatchObject, objects_of}
use Rattle.klp_model.specs.State.{is_flagged}
use Rattle.klp_model.specs.ModuleCalls.{Part, parts_among, parts_of}
use Rattle.klp_model.specs.Refusals.{lacks_symbol_of, lacks_symbol}
use Rattle.klp_model.specs.Allowed.{NoneLacks}

-- a flag that is set, or not
set_same : (flags : List Bool) (m n : ℕ) → slice_index_or (slice_set flags m true) n false ≡ true → (n ≡ m) ⊎ (slice_index_or flags n false ≡ true)
set_same [] m n e = inr e
set_same (flag ∷ flags) zero zero e = inl refl
set_same (flag ∷ flags) zero (suc n) e = inr e
set_same (flag ∷ flags) (suc m) zero e = inr e
set_same (flag ∷ flags) (suc m) (suc n) e =
    elim (set_same flags m n e) as (λ _. (suc n ≡ suc m) ⊎ (slice_index_or flags n false ≡ true)) [
      | inl is ↦ inl (ap suc is)
      | inr was ↦ inr was
    ]

pub set_true : (flags : List Bool) (m n : ℕ) → slice_index_or (slice_set flags m true) n false ≡ true → ((n == m) ≡ true) ⊎ (slice_index_or flags n false ≡ true)
set_true flags m n e =
    elim (set_same flags m n e) as (λ _. ((n == m) ≡ true) ⊎ (slice_index_or flags n false ≡ true)) [
      | inl is ↦ inl (eq-eqb n m is)
      | inr was ↦ inr was
    ]

pub set_false : (flags : List Bool) (m n : ℕ) → slice_index_or (slice_set flags m false) n false ≡ true → slice_index_or flags n false ≡ true
set_false [] m n e = e
set_false (flag ∷ flags) zero zero e = cc
set_false (flag ∷ flags) zero (suc n) e = e
set_false (flag ∷ flags) (suc m) zero e = e
set_false (flag ∷ flags) (suc m) (suc n) e = set_false flags m n e

pub first_set_true : (flags : List Bool) (m : ℕ) → slice_index_or flags 0 false ≡ true → slice_index_or (slice_set flags m true) 0 false ≡ true
first_set_true [] m e = e
first_set_true (flag ∷ flags) zero e = refl
first_set_true (flag ∷ flags) (suc m) e = e

pub first_set_false : (flags : List Bool) (m : ℕ) → (m == 0) ≡ false → slice_index_or flags 0 false ≡ true → slice_index_or (slice_set flags m false) 0 false ≡ true
first_set_false [] m n e = e
first_set_false (flag ∷ flags) zero n e = cc
first_set_false (flag ∷ flags) (suc m) n e = e

-- a test and another
and_false : (a b : Bool) → (a ≡ true → b ≡ false) → (a && b) ≡ false
and_false true b h = h refl
and_false false b h = refl

of_and : (a b : Bool) → (a && b) ≡ false → a ≡ true → b ≡ false
of_and true b h e = h
of_and false b h e = cc

-- the objects of a patch
module _ (now then : ℕ → Bool) (also : ℕ → Bool) (either : (o : ℕ) → now o ≡ true → (also o ≡ true) ⊎ (then o ≡ true)) where
  pub none_lacks_now : (objects : List PatchObject) → list_any (λ (o : PatchObject). then o.object && lacks_symbol_of o) objects ≡ false
      → list_any (λ (o : PatchObject). also o.object && lacks_symbol_of o) objects ≡ false
      → list_any (λ (o : PatchObject). now o.object && lacks_symbol_of o) objects ≡ false
  none_lacks_now [] a b = refl
  none_lacks_now (object ∷ objects) a b =
      let as_then = or_parts (then object.object && lacks_symbol_of object) _ a in
      let as_also = or_parts (also object.object && lacks_symbol_of object) _ b in
      ap (λ t. t || list_any (λ (o : PatchObject). now o.object && lacks_symbol_of o) objects) (and_false (now object.object) (lacks_symbol_of object) (here as_then.0 as_also.0))
      ∙ none_lacks_now objects as_then.1 as_also.1
    where
      here : (then object.object && lacks_symbol_of object) ≡ false → (also object.object && lacks_symbol_of object) ≡ false → now object.object ≡ true → lacks_symbol_of object ≡ false
      here a b e = elim (either object.object e) as (λ _. lacks_symbol_of object ≡ false) [
        | inl is ↦ of_and (also object.object) (lacks_symbol_of object) b is
        | inr is ↦ of_and (then object.object) (lacks_symbol_of object) a is
      ]

-- the parts of a patch for a module
parts_any : (patch : ℕ) (objects : List (ℕ × PatchObject)) → list_any (λ (p : Part). lacks_symbol_of p.1.1) (parts_among patch objects) ≡ list_any (λ (o : ℕ × PatchObject). lacks_symbol_of o.1) objects
parts_any patch [] = refl
parts_any patch (object ∷ objects) = ap (λ b. lacks_symbol_of object.1 || b) (parts_any patch objects)

filtered_any : (m n : ℕ) (objects : List PatchObject) → list_any (λ (o : ℕ × PatchObject). lacks_symbol_of o.1) (filter (λ (o : ℕ × PatchObject). o.1.object == m) (enumerate_from n objects))
    ≡ list_any (λ (o : PatchObject). (o.object == m) && lacks_symbol_of o) objects
filtered_any m n [] = refl
filtered_any m n (object ∷ objects) = by (object.object == m) (filtered_any m (n + 1) objects)
  where
    by : (t : Bool) → list_any (λ (o : ℕ × PatchObject). lacks_symbol_of o.1) (filter (λ (o : ℕ × PatchObject). o.1.object == m) (enumerate_from (n + 1) objects))
        ≡ list_any (λ (o : PatchObject). (o.object == m) && lacks_symbol_of o) objects
        → list_any (λ (o : ℕ × PatchObject). lacks_symbol_of o.1) (cond t ((n, object) ∷ filter (λ (o : ℕ × PatchObject). o.1.object == m) (enumerate_from (n + 1) objects)) (filter (λ (o : ℕ × PatchObject). o.1.object == m) (enumerate_from (n + 1) objects)))
        ≡ ((t && lacks_symbol_of object) || list_any (λ (o : PatchObject). (o.object == m) && lacks_symbol_of o) objects)
    by true e = ap (λ b. lacks_symbol_of object || b) e
    by false e = e

module _ (setting : Setting) where
  -- a module comes whose symbols no installed patch lacks
  pub came : (flags : List Bool) (m : ℕ) (patches : List ℕ)
      → list_any (λ (p : Part). lacks_symbol_of p.1.1) (flat_map (parts_of setting m) patches) ≡ false
      → NoneLacks setting flags patches → NoneLacks setting (slice_set flags m true) patches
  came flags m [] none was = tt
  came flags m (patch ∷ patches) none was =
      let split = or_parts (list_any (λ (p : Part). lacks_symbol_of p.1.1) (parts_of setting m patch)) (list_any (λ (p : Part). lacks_symbol_of p.1.1) (flat_map (parts_of setting m) patches))
      (sym (list_any-append (λ (p : Part). lacks_symbol_of p.1.1) (parts_of setting m patch) (flat_map (parts_of setting m) patches)) ∙ none) in (
        none_lacks_now (is_flagged (slice_set flags m true)) (is_flagged flags) (λ o. o == m) (λ o is. set_true flags m o is) (objects_of setting patch) was.0
            (sym (filtered_any m 0 (objects_of setting patch)) ∙ sym (parts_any patch (filter (λ (o : ℕ × PatchObject). o.1.object == m) (enumerate_from 0 (objects_of setting patch)))) ∙ split.0),
        came flags m patches split.1 was.1,
      )

  no_also : (objects : List PatchObject) → list_any (λ (o : PatchObject). false && lacks_symbol_of o) objects ≡ false
  no_also [] = refl
  no_also (object ∷ objects) = no_also objects

  -- less is loaded, or the same
  pub fewer : (flags next : List Bool) → ((o : ℕ) → is_flagged next o ≡ true → is_flagged flags o ≡ true) → (patches : List ℕ) → NoneLacks setting flags patches → NoneLacks setting next patches
  fewer flags next less [] was = tt
  fewer flags next less (patch ∷ patches) was =
      (none_lacks_now (is_flagged next) (is_flagged flags) (λ o. false) (λ o is. inr (less o is)) (objects_of setting patch) was.0 (no_also (objects_of setting patch)), fewer flags next less patches was.1)

  pub lacks-put : (flags : List Bool) (patch : ℕ) (patches : List ℕ) → NoneLacks setting flags patches → lacks_symbol setting flags patch ≡ false → NoneLacks setting flags (patches ++ patch ∷ [])
  lacks-put flags patch [] was own = (own, tt)
  lacks-put flags patch (first ∷ patches) was own = (was.0, lacks-put flags patch patches was.1 own)
