-- Bytes that are looked at lane by lane.
use Rattle.std.proofs.Common.{◌≡◌, ℕ, ◌+◌, ◌<◌, ◌≤◌, ◌&&◌, ◌*◌, ◌^◌, ◌%◌, eqb, leb, Bool, true, false, not, ◌||◌, cond, bit_or, List, [], ◌∷◌, map, length, drop, replicate, refl, sym, ap, ap₂, ◌∙◌, arith}
use Rattle.std.proofs.lemmas.Bool.{eq-eqb, ne_eqb}
use Rattle.std.proofs.lemmas.Bool.Decides.{nat_tests}
use Rattle.std.proofs.lemmas.List.Folds.{prefix_len-append, list_all-append}
use Rattle.std.proofs.lemmas.List.Sums.{prefix_len-le-length}
use Rattle.std.proofs.lemmas.Simd.{map-map, zip2_splat, zip2_splat_left, zip2_of_maps, mask_l-mod, chunk-drop, length-chunk, leading_from_mask_l, trailing_mask_l}
use Rattle.std.proofs.lemmas.List.{length-map}
use Rattle.std.specs.Char.{is_ascii}
use Rattle.std.specs.List.{position_or_len, list_all}
use lib.Lanes.{chunk, zip2, mask_l, top}
use lib.Count.{count_trailing_zeros}
use Rattle.klp_words.specs.Split.{is_either}

abbrev hit : ℕ → ℕ → ℕ
hit a b = cond (eqb a b) 255 0

abbrev at_most : ℕ → ℕ → ℕ
at_most a b = cond (leb a b) 255 0

marked_either : (a b : Bool) → top 7 (bit_or (cond a 255 0) (cond b 255 0)) ≡ (a || b)
marked_either true true = refl
marked_either true false = refl
marked_either false true = refl
marked_either false false = refl

map-same : (f g : ℕ → Bool) → ((x : ℕ) → f x ≡ g x) → (xs : List ℕ) → map f xs ≡ map g xs
map-same f g same [] = refl
map-same f g same (x ∷ xs) = ap₂ (λ b bs. b ∷ bs) (same x) (map-same f g same xs)

-- the lanes that are one of two bytes
pub either_lanes : (v : List ℕ) (one other : ℕ) → length v ≡ 16
    → mask_l (map (top 7) (zip2 bit_or (zip2 hit v (replicate 16 one)) (zip2 hit v (replicate 16 other)))) % 2 ^ 64 ≡ mask_l (map (is_either one other) v)
either_lanes v one other long =
    let lanes = zip2_of_maps bit_or (λ x. hit x one) (λ x. hit x other) v (zip2_splat hit v 16 one long) (zip2_splat hit v 16 other long) in
    ap (λ z. mask_l (map (top 7) z) % 2 ^ 64) lanes
    ∙ ap (λ z. mask_l z % 2 ^ 64) (map-map (top 7) (λ x. bit_or (hit x one) (hit x other)) v ∙ map-same (λ x. top 7 (bit_or (hit x one) (hit x other))) (is_either one other) (λ x. marked_either (eqb x one) (eqb x other)) v)
    ∙ mask_l-mod (map (is_either one other) v) 64 (omega (arith, length-map v (is_either one other), long))

beyond : (x : ℕ) → top 7 (at_most 128 x) ≡ not (is_ascii x)
beyond x = by (leb 128 x) refl
  where
    by : (b : Bool) → leb 128 x ≡ b → top 7 (cond b 255 0) ≡ not (is_ascii x)
    by true e = grind (arith, nat_tests)
    by false e = grind (arith, nat_tests)

-- the lanes that are no ASCII
pub lanes_beyond : (v : List ℕ) → length v ≡ 16
    → mask_l (map (top 7) (zip2 at_most (replicate 16 128) v)) % 2 ^ 64 ≡ mask_l (map (λ b. not (is_ascii b)) v)
lanes_beyond v long =
    ap (λ z. mask_l (map (top 7) z) % 2 ^ 64) (zip2_splat_left at_most 128 16 v long)
    ∙ ap (λ z. mask_l z % 2 ^ 64) (map-map (top 7) (at_most 128) v ∙ map-same (λ x. top 7 (at_most 128 x)) (λ b. not (is_ascii b)) beyond v)
    ∙ mask_l-mod (map (λ b. not (is_ascii b)) v) 64 (omega (arith, length-map v (λ b. not (is_ascii b)), long))

-- ---- from lanes to bytes

none_marked : (b : Bool) (n l m : ℕ) → n ≤ l → cond (not b) (1 + n) 0 ≡ 1 + l → (n ≡ l → m ≡ 0) → cond b 1 0 + 2 * m ≡ 0
none_marked true n l m le e rest = absurd (omega arith)
none_marked false n l m le e rest = let none = rest (omega arith) in omega arith

-- where no lane passes, no bit is set
no_bit : (p : ℕ → Bool) (xs : List ℕ) → position_or_len p xs ≡ length xs → mask_l (map p xs) ≡ 0
no_bit p [] h = refl
no_bit p (x ∷ xs) h = none_marked (p x) (position_or_len p xs) (length xs) (mask_l (map p xs)) (prefix_len-le-length (λ y. not (p y)) xs) (omega arith) (no_bit p xs)

parted : (p : ℕ → Bool) (xs : List ℕ) (i n : ℕ)
    → position_or_len p (drop i xs) ≡ cond (eqb (position_or_len p (chunk i n xs)) (length (chunk i n xs))) (length (chunk i n xs) + position_or_len p (drop (i + n) xs)) (position_or_len p (chunk i n xs))
parted p xs i n = ap (position_or_len p) (chunk-drop i n xs) ∙ prefix_len-append (λ x. not (p x)) (chunk i n xs) (drop (i + n) xs)

-- no lane passes: the first byte that does stands behind
pub behind_lanes : (p : ℕ → Bool) (xs : List ℕ) (i n : ℕ) → i + n ≤ length xs → mask_l (map p (chunk i n xs)) ≡ 0 → position_or_len p (drop i xs) ≡ n + position_or_len p (drop (i + n) xs)
behind_lanes p xs i n room none =
    let lanes = chunk i n xs in
    parted p xs i n
    ∙ ap (λ b. cond b (length lanes + position_or_len p (drop (i + n) xs)) (position_or_len p lanes)) (eq-eqb _ _ (leading_from_mask_l p lanes none))
    ∙ ap (λ k. k + position_or_len p (drop (i + n) xs)) (length-chunk i n xs room)

-- some lane does: the lowest bit tells which
pub among_lanes : (p : ℕ → Bool) (xs : List ℕ) (i n : ℕ) → i + n ≤ length xs → n ≤ 64 → 0 < mask_l (map p (chunk i n xs)) → position_or_len p (drop i xs) ≡ count_trailing_zeros 64 (mask_l (map p (chunk i n xs)))
among_lanes p xs i n room few some =
    let lanes = chunk i n xs in
    parted p xs i n
    ∙ ap (λ b. cond b (length lanes + position_or_len p (drop (i + n) xs)) (position_or_len p lanes)) (ne_eqb _ _ (λ (e : position_or_len p lanes ≡ length lanes). omega (arith, no_bit p lanes e)))
    ∙ sym (trailing_mask_l p 64 lanes (omega (arith, length-chunk i n xs room)) some)

bit_set : (b : Bool) (m : ℕ) (rest : Bool) → cond (not b) 1 0 + 2 * m ≡ 0 → (m ≡ 0 → rest ≡ true) → (b && rest) ≡ true
bit_set true m rest h all = all (omega arith)
bit_set false m rest h all = absurd (omega arith)

no_lane_fails : (p : ℕ → Bool) (xs : List ℕ) → mask_l (map (λ x. not (p x)) xs) ≡ 0 → list_all p xs ≡ true
no_lane_fails p [] h = refl
no_lane_fails p (x ∷ xs) h = bit_set (p x) (mask_l (map (λ y. not (p y)) xs)) (list_all p xs) h (no_lane_fails p xs)

-- no lane fails: the bytes behind decide
pub all_behind_lanes : (p : ℕ → Bool) (xs : List ℕ) (i n : ℕ) → mask_l (map (λ x. not (p x)) (chunk i n xs)) ≡ 0 → list_all p (drop i xs) ≡ list_all p (drop (i + n) xs)
all_behind_lanes p xs i n none =
    ap (list_all p) (chunk-drop i n xs) ∙ list_all-append p (chunk i n xs) (drop (i + n) xs)
    ∙ ap (λ b. b && list_all p (drop (i + n) xs)) (no_lane_fails p (chunk i n xs) none)
