-- Lists whose last item changes.
use Rattle.std.proofs.Common.{◌≡◌, ℕ, zero, suc, ◌+◌, ◌<◌, ◌==◌, nat_lt, Bool, false, not, cond, List, [], ◌∷◌, length, get_or, set, map, position, Some, None, Result, Ok, Err, OnOk, refl, sym, ap, ◌∙◌, arith}
use Rattle.std.specs.List.{prefix_len, position_or_len}
use Rattle.std.proofs.lemmas.List.{length-map}
use Rattle.klp_catalog_text.specs.PlanParts.{on_last}
use Rattle.std.proofs.lemmas.Bool.Decides.{nat_tests}

pub positive : (n : ℕ) → false ≡ (n == 0) → 0 < n
positive n h = grind (arith, nat_tests)

-- a write at the last place changes the last item
pub set_last : {A : Type 0} (change : A → A) (xs : List A) (n : ℕ) (x y : A) → n + 1 ≡ length xs → x ≡ get_or xs n x → y ≡ change x → set xs n y ≡ on_last change xs
set_last change [] n x y h at_n e = absurd (omega arith)
set_last change (a ∷ []) zero x y h at_n e = ap (λ z. z ∷ []) (e ∙ ap change at_n)
set_last change (a ∷ []) (suc n) x y h at_n e = absurd (omega arith)
set_last change (a ∷ b ∷ xs) zero x y h at_n e = absurd (omega arith)
set_last change (a ∷ b ∷ xs) (suc n) x y h at_n e = ap (λ z. a ∷ z) (set_last change (b ∷ xs) n x y (omega arith) at_n e)

pub on_ok : {T E P Q : Type 0} (r : Result T E) → OnOk r P → (P → Q) → OnOk r Q
on_ok (Ok x) p f = f p
on_ok (Err e) p f = tt

prefix_len-map : {A B : Type 0} (p : B → Bool) (f : A → B) (xs : List A) → prefix_len (λ x. p (f x)) xs ≡ prefix_len p (map f xs)
prefix_len-map p f [] = refl
prefix_len-map p f (x ∷ xs) = ap (λ n. cond (p (f x)) (1 + n) 0) (prefix_len-map p f xs)

-- the place of an item in a list is that of its image
pub position-map : {A B : Type 0} (p : B → Bool) (f : A → B) (xs : List A) → position (λ x. p (f x)) xs ≡ position p (map f xs)
position-map p f xs =
    ap (λ n. cond (nat_lt n (length xs)) (Some n) None) (prefix_len-map (λ x. not (p x)) f xs)
    ∙ ap (λ n. cond (nat_lt (position_or_len p (map f xs)) n) (Some (position_or_len p (map f xs))) None) (sym (length-map xs f))
