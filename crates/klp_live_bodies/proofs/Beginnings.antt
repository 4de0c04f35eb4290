-- Beginnings of lists.
use Rattle.std.proofs.Common.{◌≡◌, ℕ, ◌≤◌, List, [], ◌++◌, length, take, ap, sym, ◌∙◌, arith, append_assoc, length-append}
use Rattle.std.proofs.lemmas.List.{append-nil, take-append-le}
use mathlib.Core.List.{IsPrefix}

pub begins_itself : {A : Type 0} (xs : List A) → IsPrefix xs xs
begins_itself xs = ([], append-nil xs)

pub begins_on : {A : Type 0} (xs ys zs : List A) → IsPrefix xs ys → IsPrefix ys zs → IsPrefix xs zs
begins_on xs ys zs p q = (p.0 ++ q.0, sym (append_assoc xs p.0 q.0) ∙ (ap (λ w. w ++ q.0) p.1 ∙ q.1))

pub begins_shorter : {A : Type 0} (xs ys : List A) → IsPrefix xs ys → length xs ≤ length ys
begins_shorter xs ys p = omega (arith, sym (ap length p.1) ∙ length-append xs p.0)

-- the first elements of a beginning are those of the whole
pub take_of_beginning : {A : Type 0} (n : ℕ) (xs ys : List A) → IsPrefix xs ys → n ≤ length xs → take n xs ≡ take n ys
take_of_beginning n xs ys p le = sym (take-append-le n xs p.0 le) ∙ ap (take n) p.1
