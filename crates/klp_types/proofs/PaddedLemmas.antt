-- Lists kept in an array: one more item, and a whole list written to an array of fillers.
use Rattle.std.proofs.Common.{◌≡◌, ℕ, zero, suc, ◌+◌, ◌-◌, ◌<◌, ◌≤◌, List, [], ◌∷◌, ◌++◌, length, take, drop, set, get_or, replicate, refl, sym, ap, ◌∙◌, arith, length-append, append_assoc}
use Rattle.std.proofs.lemmas.List.{length-take-le, take_more}
use Rattle.klp_types.specs.Padded.{padded, IsPadded}

set_behind : {A : Type 0} (front : List A) (x v : A) (rest : List A) → set (front ++ x ∷ rest) (length front) v ≡ front ++ v ∷ rest
set_behind [] x v rest = refl
set_behind (first ∷ front) x v rest = ap (λ xs. first ∷ xs) (set_behind front x v rest)

pub take_front : {A : Type 0} (front rest : List A) → take (length front) (front ++ rest) ≡ front
take_front [] rest = refl
take_front (first ∷ front) rest = ap (λ xs. first ∷ xs) (take_front front rest)

module _ {A : Type 0} (room : ℕ) (filler : A) (kept : List A) (count : ℕ) (v : A) (h : IsPadded room filler kept count) (fits : count < room) where
  abbrev front : List A
  front = take count kept

  abbrev left : ℕ
  left = room - (count + 1)

  written : set kept count v ≡ (front ++ v ∷ []) ++ replicate left filler
  written =
      ap (λ xs. set xs count v) (h.1 ∙ ap (λ n. front ++ replicate n filler) one)
      ∙ ap (λ n. set (front ++ filler ∷ replicate left filler) n v) (sym h.0)
      ∙ set_behind front filler v (replicate left filler)
      ∙ sym (append_assoc front (v ∷ []) (replicate left filler))
    where
      one : room - length front ≡ suc left
      one = omega (arith, h.0, fits)

  longer : length (front ++ v ∷ []) ≡ count + 1
  longer = omega (arith, length-append front (v ∷ []), h.0)

  -- what is taken then
  pub taken : take (count + 1) (set kept count v) ≡ front ++ v ∷ []
  taken =
      ap (take (count + 1)) written ∙ ap (λ n. take n ((front ++ v ∷ []) ++ replicate left filler)) (sym longer)
      ∙ take_front (front ++ v ∷ []) (replicate left filler)

  pub pushed : IsPadded room filler (set kept count v) (count + 1)
  pushed = (
    ap length taken ∙ longer,
    written ∙ sym (ap (padded room filler) taken ∙ ap (λ n. (front ++ v ∷ []) ++ replicate n filler) same),
  )
    where
      same : room - length (front ++ v ∷ []) ≡ left
      same = omega (arith, longer)

-- what is taken is no more than there is
pub few : {A : Type 0} (room : ℕ) (filler : A) (kept : List A) (count : ℕ) → IsPadded room filler kept count → count ≤ length kept
few room filler kept count h =
    let long = ap length h.1 ∙ length-append (take count kept) (replicate (room - length (take count kept)) filler) in
    omega (arith, long, h.0)

-- One item fewer.
module _ {A : Type 0} (room : ℕ) (filler : A) (kept : List A) (count : ℕ) (h : IsPadded room filler kept (count + 1)) (fits : count < room) where
  abbrev short : List A
  short = take count kept

  abbrev last : A
  last = get_or kept count filler

  abbrev behind : ℕ
  behind = room - (count + 1)

  within : count < length kept
  within = omega (arith, few room filler kept (count + 1) h)

  shorter : length short ≡ count
  shorter = length-take-le count kept (omega (arith, within))

  parted : kept ≡ short ++ last ∷ replicate behind filler
  parted =
      h.1 ∙ ap (λ n. take (count + 1) kept ++ replicate (room - n) filler) h.0
      ∙ ap (λ xs. xs ++ replicate behind filler) (take_more kept count filler within)
      ∙ append_assoc short (last ∷ []) (replicate behind filler)

  emptied : set kept count filler ≡ short ++ filler ∷ replicate behind filler
  emptied =
      ap (λ xs. set xs count filler) parted
      ∙ ap (λ n. set (short ++ last ∷ replicate behind filler) n filler) (sym shorter)
      ∙ set_behind short last filler (replicate behind filler)

  -- what is taken then
  pub left_taken : take count (set kept count filler) ≡ short
  left_taken =
      ap (take count) emptied ∙ ap (λ n. take n (short ++ filler ∷ replicate behind filler)) (sym shorter)
      ∙ take_front short (filler ∷ replicate behind filler)

  pub popped : IsPadded room filler (set kept count filler) count
  popped = (
    ap length left_taken ∙ shorter,
    emptied ∙ ap (λ n. short ++ replicate n filler) one ∙ sym (ap (padded room filler) left_taken),
  )
    where
      one : suc behind ≡ room - length short
      one = omega (arith, shorter, fits)

drop_fillers : {A : Type 0} (filler : A) (room count : ℕ) → drop count (replicate room filler) ≡ replicate (room - count) filler
drop_fillers filler room zero = let all : room ≡ room - 0 = omega arith in ap (λ n. replicate n filler) all
drop_fillers filler zero (suc count) = let none : 0 ≡ 0 - suc count = omega arith in ap (λ n. replicate n filler) none
drop_fillers filler (suc room) (suc count) = drop_fillers filler room count ∙ ap (λ n. replicate n filler) same
  where
    same : room - count ≡ suc room - suc count
    same = omega arith

-- a list that was written over the first fillers is what is taken, and padded
pub filled : {A : Type 0} (room : ℕ) (filler : A) (copied items : List A) → copied ≡ items → IsPadded room filler (copied ++ drop (length items) (replicate room filler)) (length items)
filled room filler copied items is =
    let rest = replicate (room - length items) filler in
    let kept : copied ++ drop (length items) (replicate room filler) ≡ items ++ rest = ap (λ xs. xs ++ drop (length items) (replicate room filler)) is ∙ ap (λ xs. items ++ xs) (drop_fillers filler room (length items)) in
    let taken : take (length items) (copied ++ drop (length items) (replicate room filler)) ≡ items = ap (take (length items)) kept ∙ take_front items rest in
    (ap length taken, kept ∙ sym (ap (padded room filler) taken))
