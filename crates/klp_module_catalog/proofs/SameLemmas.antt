-- When two lists read alike, element by element.
use Rattle.std.proofs.Common.{◌≡◌, ◌≢◌, slice_index_or, ℕ, zero, suc, ◌<◌, Bool, true, false, List, [], ◌∷◌, map, take, length, refl, sym, ap, ◌∙◌, arith, Decides}
use Rattle.std.specs.Prelude.{MatchBool, zip, drop}
use Rattle.std.specs.List.{AllWithin, HoldsAt}
use Rattle.std.proofs.lemmas.List.{length-map}
use mathlib.Core.Bool.{true≢false}
use Rattle.klp_types.specs.declared.limits.TheConstants.{MAX_NAME}
use Rattle.klp_module_catalog.specs.Said.{spelled_byte, spelled_name}

module _ {A B X : Type 0} (f : A → X) (g : B → X) where
  abbrev pub AreAlike : A × B → Type 0
  AreAlike p = f p.0 ≡ g p.1

  abbrev pub Differ : A × B → Type 0
  Differ p = f p.0 ≢ g p.1

  each_alike : (xs : List A) (ys : List B) → length xs ≡ length ys → AllWithin AreAlike (zip xs ys) 0 (length (zip xs ys)) → map f xs ≡ map g ys
  each_alike [] [] e h = refl
  each_alike [] (y ∷ ys) e h = absurd (omega arith)
  each_alike (x ∷ xs) [] e h = absurd (omega arith)
  each_alike (x ∷ xs) (y ∷ ys) e h = λ i. h 0 (x, y) (omega arith) (omega arith) i ∷ each_alike xs ys (omega arith) (λ k d a b. h (suc k) d (omega arith) (omega arith)) i

  alike_at : (xs : List A) (ys : List B) → map f xs ≡ map g ys → (k : ℕ) (d : A × B) → k < length (zip xs ys) → AreAlike (slice_index_or (zip xs ys) k d)
  alike_at [] ys e k d l = absurd (omega arith)
  alike_at (x ∷ xs) [] e k d l = absurd (omega arith)
  alike_at (x ∷ xs) (y ∷ ys) e zero d l = ap (λ (all : List X). slice_index_or all 0 (f x)) e
  alike_at (x ∷ xs) (y ∷ ys) e (suc k) d l = alike_at xs ys (ap (drop 1) e) k d (omega arith)

  none_differs : (xs : List A) (ys : List B) → map f xs ≡ map g ys → (k : ℕ) × (k < length (zip xs ys)) × HoldsAt Differ (zip xs ys) k → ⊥
  none_differs [] ys e h = omega (arith, h.1)
  none_differs (x ∷ xs) [] e h = omega (arith, h.1)
  none_differs (x ∷ xs) (y ∷ ys) e h = h.2 (x, y) (alike_at (x ∷ xs) (y ∷ ys) e h.0 (x, y) h.1)

  -- lists of one length read alike exactly if each element does
  pub alike : (xs : List A) (ys : List B) (r : Bool) → length xs ≡ length ys
      → MatchBool r (AllWithin AreAlike (zip xs ys) 0 (length (zip xs ys))) ((k : ℕ) × (k < length (zip xs ys)) × HoldsAt Differ (zip xs ys) k)
      → Decides r (map f xs ≡ map g ys)
  alike xs ys true e h = ((λ _. each_alike xs ys e h), λ _. refl)
  alike xs ys false e h = ((λ t. absurd (true≢false (sym t))), λ q. absurd (none_differs xs ys q h))

  -- lists that aren't of one length don't
  pub longer : (xs : List A) (ys : List B) → length xs ≢ length ys → Decides false (map f xs ≡ map g ys)
  longer xs ys e = ((λ t. absurd (true≢false (sym t))), λ q. absurd (e (sym (length-map xs f) ∙ ap length q ∙ length-map ys g)))

-- the name of a function that has one
pub spelled_cut : (name : List ℕ) → 0 < length name → spelled_name name ≡ map spelled_byte (take MAX_NAME name)
spelled_cut [] e = absurd (omega (arith, e))
spelled_cut (b ∷ bytes) e = refl
