-- The functions of a patch, object by object.
use Rattle.std.proofs.Common.{◌≡◌, ℕ, ◌+◌, ◌-◌, ◌<◌, ◌≤◌, List, ◌∷◌, ◌++◌, length, get_or, map, drop, replicate, sym, ap, ◌∙◌, arith, length-append}
use Rattle.std.proofs.lemmas.List.{length-map, length-drop, length-replicate, drop-drop, drop_at, drop_all, drop_more, get_or-map, get_or-drop, get_or_append_left, get_or-replicate}
use Rattle.klp_catalog.specs.Catalog.{CatalogFunction}
use Rattle.klp_catalog.specs.Stored.{StoredTarget}
use Rattle.klp_catalog.specs.Patch.{objects_in_order}

-- the object of each function
abbrev pub objects_of : List CatalogFunction → List ℕ
objects_of functions = map (λ (f : CatalogFunction). f.object) functions

-- so many functions from one on are for one object, with the others behind them
module _ (functions : List CatalogFunction) (start count object : ℕ) (rest : List ℕ) (start_within : start ≤ length functions)
    (here : drop start (objects_of functions) ≡ replicate count object ++ rest) where
  pub end_within : start + count ≤ length functions
  end_within =
      omega (
        arith,
        start_within,
        ap length here,
        length-drop start (objects_of functions),
        length-map functions (λ (f : CatalogFunction). f.object),
        length-append (replicate count object) rest,
        length-replicate count object,
      )

  pub behind_them : drop (start + count) (objects_of functions) ≡ rest
  behind_them =
      sym (drop-drop count start (objects_of functions)) ∙ ap (drop count) here ∙ drop_at (replicate count object) rest count (length-replicate count object)

  pub object_here : (i : ℕ) (d : CatalogFunction) → start ≤ i → i < start + count → (get_or functions i d).object ≡ object
  object_here i d from below =
      let within : i < length functions = omega (arith, end_within) in
      let at : start + (i - start) ≡ i = omega arith in
      let few : i - start < count = omega arith in
      sym (get_or-map (λ (f : CatalogFunction). f.object) functions i d object within)
      ∙ ap (λ k. get_or (objects_of functions) k object) (sym at)
      ∙ sym (get_or-drop start (objects_of functions) (i - start) object)
      ∙ ap (λ os. get_or os (i - start) object) here
      ∙ get_or_append_left (replicate count object) rest object (i - start) (omega (arith, length-replicate count object))
      ∙ get_or-replicate count (i - start) object object few

-- behind the last object, all are done
pub all_done : (functions : List CatalogFunction) (targets : List StoredTarget) (start k : ℕ) → start ≤ length functions → drop start (objects_of functions) ≡ objects_in_order (drop k targets)
    → length targets ≤ k → start ≡ length functions
all_done functions targets start k within left past =
    let none = left ∙ ap objects_in_order (drop_all k targets past) in
    omega (arith, within, ap length none, length-drop start (objects_of functions), length-map functions (λ (f : CatalogFunction). f.object))

-- the turn of one object
module _ (functions : List CatalogFunction) (targets : List StoredTarget) (start k count : ℕ) (target : StoredTarget) (within : start ≤ length functions)
    (left : drop start (objects_of functions) ≡ objects_in_order (drop k targets)) (below : k < length targets) (is : target ≡ get_or targets k target) (many : count ≡ length target.functions) where
  pub its_own : drop start (objects_of functions) ≡ replicate count target.object ++ objects_in_order (drop (k + 1) targets)
  its_own =
      left
      ∙ ap objects_in_order (drop_more targets k target below ∙ ap (λ t. t ∷ drop (k + 1) targets) (sym is))
      ∙ ap (λ n. replicate n target.object ++ objects_in_order (drop (k + 1) targets)) (sym many)

  pub ends_within : start + count ≤ length functions
  ends_within = end_within functions start count target.object (objects_in_order (drop (k + 1) targets)) within its_own

  pub left_behind : drop (start + count) (objects_of functions) ≡ objects_in_order (drop (k + 1) targets)
  left_behind = behind_them functions start count target.object (objects_in_order (drop (k + 1) targets)) within its_own

  pub its_object : (i : ℕ) (function : CatalogFunction) → function ≡ get_or functions i function → start ≤ i → i < start + count → function.object ≡ target.object
  its_object i function here from until =
      ap (λ (f : CatalogFunction). f.object) here
      ∙ object_here functions start count target.object (objects_in_order (drop (k + 1) targets)) within its_own i function from until
