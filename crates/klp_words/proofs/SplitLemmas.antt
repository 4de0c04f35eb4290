-- The first word of a line, and where the first byte stands that is looked for.
use Rattle.std.proofs.Common.{◌≡◌, ℕ, ◌<◌, ◌≤◌, ◌+◌, Bool, true, false, not, nat_lt, ◌==◌, cond, List, [], ◌∷◌, length, take, drop, position, filter, suc, Some, None, refl, sym, ap, ◌∙◌, subst, arith, length-drop}
use Rattle.std.proofs.lemmas.Bool.Decides.{nat_tests}
use Rattle.std.proofs.lemmas.Grind.{common_steps}
use Rattle.std.proofs.lemmas.List.{take_all, drop_all}
use Rattle.std.specs.List.{slice_split, position_or_len, before_first, after_first}
use Rattle.klp_words.specs.Split.{is_some_word, words_between}

-- where the first element that passes stands
found_by : (b : Bool) (n m : ℕ) → Some n ≡ cond b (Some m) None → n ≡ m
found_by true n m h = cc
found_by false n m h = absurd cc

pub found_at : {A : Type 0} (p : A → Bool) (xs : List A) (n : ℕ) → position p xs ≡ Some n → n ≡ position_or_len p xs
found_at p xs n h = found_by (nat_lt (position_or_len p xs) (length xs)) n (position_or_len p xs) (sym h)

pub found_within : {A : Type 0} (p : A → Bool) (xs : List A) (n : ℕ) → position p xs ≡ Some n → n < length xs
found_within p xs n h = grind (arith, common_steps)

missing_by : (m n : ℕ) (b : Bool) → b ≡ nat_lt m n → cond b (Some m) None ≡ None → n ≤ m
missing_by m n true e h = absurd cc
missing_by m n false e h = grind (arith, nat_tests)

pub missing_from : {A : Type 0} (p : A → Bool) (xs : List A) → position p xs ≡ None → length xs ≤ position_or_len p xs
missing_from p xs h = missing_by (position_or_len p xs) (length xs) (nat_lt (position_or_len p xs) (length xs)) refl h

pub before_none : (p : ℕ → Bool) (xs : List ℕ) → position p xs ≡ None → before_first p xs ≡ xs
before_none p xs h = take_all (position_or_len p xs) xs (missing_from p xs h)

pub after_none : (p : ℕ → Bool) (xs : List ℕ) → position p xs ≡ None → after_first p xs ≡ []
after_none p xs h = let far = missing_from p xs h in drop_all (position_or_len p xs + 1) xs (omega arith)

-- what comes with the part up to the first element that passes
record FirstPart (p : ℕ → Bool) (xs : List ℕ) : Type 0 where
  others : List (List ℕ)
  split : slice_split p xs ≡ take (position_or_len p xs) xs ∷ others
  words : filter is_some_word others ≡ filter is_some_word (slice_split p (drop (position_or_len p xs) xs))

one_plus : (n : ℕ) → 1 + n ≡ suc n
one_plus n = omega arith

first_part_by : (p : ℕ → Bool) (x : ℕ) (xs : List ℕ) (b : Bool) → p x ≡ b → FirstPart p xs → FirstPart p (x ∷ xs)
first_part_by p x xs true e rest = record {
  others = slice_split p xs;
  split = rw e refl;
  words = rw e (rw e refl);
}
first_part_by p x xs false e rest = record {
  others = rest.others;
  split = rw e (rw (rest.split, one_plus (position_or_len p xs)) refl);
  words = rw e (rw (one_plus (position_or_len p xs)) rest.words);
}

first_part : (p : ℕ → Bool) (xs : List ℕ) → FirstPart p xs
first_part p [] = record { others = []; split = refl; words = refl }
first_part p (x ∷ xs) = first_part_by p x xs (p x) refl (first_part p xs)

filter_some : (word : List ℕ) (others : List (List ℕ)) → 0 < length word → filter is_some_word (word ∷ others) ≡ word ∷ filter is_some_word others
filter_some [] others h = absurd (omega arith)
filter_some (x ∷ xs) others h = let yes : is_some_word (x ∷ xs) ≡ true = grind (arith, nat_tests) in rw yes refl

module _ (separates : ℕ → Bool) where
  abbrev words_of : List ℕ → List (List ℕ)
  words_of = words_between separates

  abbrev IsWordStart : List ℕ → Type 0
  IsWordStart [] = Unit {0}
  IsWordStart (x ∷ xs) = separates x ≡ false

  abbrev behind_gap : List ℕ → List ℕ
  behind_gap xs = drop (position_or_len (λ b. not (separates b)) xs) xs

  -- what separates words makes none in front of them
  gap_by : (x : ℕ) (xs : List ℕ) (b : Bool) → separates x ≡ b → IsWordStart (behind_gap xs) × (words_of xs ≡ words_of (behind_gap xs))
      → IsWordStart (behind_gap (x ∷ xs)) × (words_of (x ∷ xs) ≡ words_of (behind_gap (x ∷ xs)))
  gap_by x xs true e rest = (rw e (rw (one_plus (position_or_len (λ b. not (separates b)) xs)) rest.0), rw e (rw (one_plus (position_or_len (λ b. not (separates b)) xs)) rest.1))
  gap_by x xs false e rest = (rw e e, ap words_of (here (separates x) e))
    where
      here : (b : Bool) → b ≡ false → x ∷ xs ≡ drop (cond (not (not b)) (1 + position_or_len (λ b. not (separates b)) xs) 0) (x ∷ xs)
      here b e = rw e refl

  skip_gap : (xs : List ℕ) → IsWordStart (behind_gap xs) × (words_of xs ≡ words_of (behind_gap xs))
  skip_gap [] = (tt, refl)
  skip_gap (x ∷ xs) = gap_by x xs (separates x) refl (skip_gap xs)

  some_word : (x : ℕ) (xs : List ℕ) → separates x ≡ false → 0 < length (take (position_or_len separates (x ∷ xs)) (x ∷ xs))
  some_word x xs e = rw e (rw (one_plus (position_or_len separates xs)) (omega arith))

  abbrev first_word : List ℕ → List ℕ
  first_word xs = take (position_or_len separates xs) xs

  abbrev behind_word : List ℕ → List ℕ
  behind_word xs = drop (position_or_len separates xs) xs

  word_in_front : (xs : List ℕ) → 0 < length (first_word xs) → words_of xs ≡ first_word xs ∷ words_of (behind_word xs)
  word_in_front xs h =
      let part = first_part separates xs in
      ap (filter is_some_word) part.split ∙ filter_some (first_word xs) part.others h ∙ ap (λ ws. first_word xs ∷ ws) part.words

  -- where every byte separates there is no word
  pub no_words : (xs : List ℕ) → position (λ b. not (separates b)) xs ≡ None → words_of xs ≡ []
  no_words xs none = (skip_gap xs).1 ∙ ap words_of (drop_all (position_or_len (λ b. not (separates b)) xs) xs (missing_from (λ b. not (separates b)) xs none))

  some_first : (xs : List ℕ) → IsWordStart xs → 0 < length xs → 0 < length (first_word xs)
  some_first [] start some = absurd (omega arith)
  some_first (x ∷ xs) start some = some_word x xs start

  -- the first word begins at the first byte that doesn't separate
  pub next_word : (xs ys word rest : List ℕ) (n : ℕ) → position (λ b. not (separates b)) xs ≡ Some n → ys ≡ drop n xs → word ≡ first_word ys → rest ≡ behind_word ys → words_of xs ≡ word ∷ words_of rest
  next_word xs ys word rest n found from is behind =
      let gap : ys ≡ behind_gap xs = from ∙ ap (λ m. drop m xs) (found_at (λ b. not (separates b)) xs n found) in
      let start = subst IsWordStart (sym gap) (skip_gap xs).0 in
      let within = found_within (λ b. not (separates b)) xs n found in
      let some : 0 < length ys = omega (arith, ap length from, length-drop n xs) in
      (skip_gap xs).1 ∙ ap words_of (sym gap) ∙ word_in_front ys (some_first ys start some) ∙ rw (is, behind) refl

-- what `is_empty` tells
pub positive : (n : ℕ) → false ≡ (n == 0) → 0 < n
positive n h = grind (arith, nat_tests)
