-- The first line of a text.
use Rattle.std.proofs.Common.{◌≡◌, ℕ, ◌<◌, ◌+◌, Bool, true, false, nat_lt, ◌==◌, cond, List, [], ◌∷◌, length, take, drop, position, ◌≢◌, Some, None, refl, ap, ◌∙◌, arith}
use Rattle.std.proofs.lemmas.Bool.Decides.{nat_tests}
use Rattle.std.proofs.lemmas.List.Splits.{slice_split_first, slice_split_none, length-slice_split}
use Rattle.std.proofs.lemmas.List.Sums.{fails_before_first}
use Rattle.std.specs.List.{slice_split, position_or_len, before_first, after_first}
use Rattle.std.specs.Str.Lines.{lines, lines_of_parts, strip_carriage_return}
use Rattle.klp_words.proofs.SplitLemmas.{found_at, missing_from}

-- lines
lines_more : (part : List ℕ) (parts : List (List ℕ)) → 0 < length parts → lines_of_parts (part ∷ parts) ≡ strip_carriage_return part ∷ lines_of_parts parts
lines_more part [] h = absurd (omega arith)
lines_more part (next ∷ parts) h = refl

last_part : (text : List ℕ) → length text ≢ 0 → lines_of_parts (text ∷ []) ≡ text ∷ []
last_part text some = let test : (length text == 0) ≡ false = grind (arith, nat_tests) in rw test refl

-- the first line ends at the first line feed
pub line_at : (text : List ℕ) (n : ℕ) → position (λ b. b == 10) text ≡ Some n → n < length text → lines text ≡ strip_carriage_return (take n text) ∷ lines (drop (n + 1) text)
line_at text n h within =
    let here = found_at (λ b. b == 10) text n h in
    let split = slice_split_first (λ b. b == 10) text 0 (omega arith) in
    let parts = slice_split (λ b. b == 10) (after_first (λ b. b == 10) text) in
    let some : 0 < length parts = omega (arith, length-slice_split (λ b. b == 10) (after_first (λ b. b == 10) text)) in
    ap lines_of_parts split ∙ lines_more (before_first (λ b. b == 10) text) parts some ∙ rw here refl

-- without one, all bytes are the last line
pub last_line : (text : List ℕ) → position (λ b. b == 10) text ≡ None → length text ≢ 0 → lines text ≡ text ∷ []
last_line text h some =
    let far = missing_from (λ b. b == 10) text h in
    let split = slice_split_none (λ b. b == 10) text (λ k d lt. fails_before_first (λ b. b == 10) text k d (omega arith)) in
    ap lines_of_parts split ∙ last_part text some

pub within : (p : ℕ → Bool) (xs : List ℕ) (n : ℕ) → position p xs ≡ Some n → n < length xs
within p xs n h = by (nat_lt (position_or_len p xs) (length xs)) refl h
  where
    by : (b : Bool) → b ≡ nat_lt (position_or_len p xs) (length xs) → cond b (Some (position_or_len p xs)) None ≡ Some n → n < length xs
    by true e h = let same : position_or_len p xs ≡ n = cc in grind (arith, nat_tests)
    by false e h = absurd cc
