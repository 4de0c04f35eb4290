-- Items that stand in lines, one list behind another.
use Rattle.std.proofs.Common.{◌≡◌, ℕ, ◌+◌, ◌<◌, List, [], ◌∷◌, ◌++◌, length, get_or, take, drop, refl, sym, ap, subst, add-one}
use Rattle.std.specs.List.{flat_map}
use Rattle.std.proofs.Math.Seq.{drop-cons, take-suc}
use Rattle.std.proofs.lemmas.Grind.{flat_map-append}
use Rattle.klp_capture.specs.Shown.{StandInOrder}

pub stand-append : (a b : List (List ℕ)) (from mid to : List (List ℕ)) → StandInOrder a from mid → StandInOrder b mid to → StandInOrder (a ++ b) from to
stand-append [] b from mid to e s = subst (λ (x : List (List ℕ)). StandInOrder b x to) (sym e) s
stand-append (x ∷ a) b from mid to (behind, here, more) s = (behind, here, stand-append a b behind mid to more s)

-- those of one more in front of those that are left
pub stand-drop : {X : Type 0} (f : X → List (List ℕ)) (xs : List X) (i : ℕ) (d : X) (from mid to : List (List ℕ)) → i < length xs
    → StandInOrder (f (get_or xs i d)) from mid → StandInOrder (flat_map f (drop (i + 1) xs)) mid to
    → StandInOrder (flat_map f (drop i xs)) from to
stand-drop {X} f xs i d from mid to h here more =
    let first : drop i xs ≡ get_or xs i d ∷ drop (i + 1) xs = rw add-one (drop-cons xs i d h) in
    subst (λ (left : List X). StandInOrder (flat_map f left) from to) (sym first)
    (stand-append (f (get_or xs i d)) (flat_map f (drop (i + 1) xs)) from mid to here more)

append-nothing : (xs : List (List ℕ)) → xs ++ [] ≡ xs
append-nothing [] = refl
append-nothing (x ∷ xs) = ap (λ (rest : List (List ℕ)). x ∷ rest) (append-nothing xs)

flat_map-take_more : {X : Type 0} (f : X → List (List ℕ)) (xs : List X) (i : ℕ) (d : X) → i < length xs
    → flat_map f (take (i + 1) xs) ≡ flat_map f (take i xs) ++ f (get_or xs i d)
flat_map-take_more f xs i d h =
    rw (add-one, take-suc xs i d h, flat_map-append f (take i xs) (get_or xs i d ∷ []))
    (ap (λ (last : List (List ℕ)). flat_map f (take i xs) ++ last) (append-nothing (f (get_or xs i d))))

-- those of one more behind those so far
pub stand-take : {X : Type 0} (f : X → List (List ℕ)) (xs : List X) (i : ℕ) (d : X) (from mid to : List (List ℕ)) → i < length xs
    → StandInOrder (flat_map f (take i xs)) from mid → StandInOrder (f (get_or xs i d)) mid to
    → StandInOrder (flat_map f (take (i + 1) xs)) from to
stand-take f xs i d from mid to h before here =
    subst (λ (items : List (List ℕ)). StandInOrder items from to) (sym (flat_map-take_more f xs i d h))
    (stand-append (flat_map f (take i xs)) (f (get_or xs i d)) from mid to before here)
