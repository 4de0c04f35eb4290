-- Finding a line among lines that rise.
use Rattle.std.proofs.Common.{◌≡◌, ℕ, zero, suc, ◌<◌, ◌≤◌, ◌≢◌, List, [], ◌∷◌, length, get_or, Some, None, Result, Ok, Err, IfOk, IfErr, refl, sym, ap, arith}
use Rattle.std.specs.List.Sorted.{IsSearchInRange, IsBinarySearchResult, IsNonDecreasingBy}
use Rattle.std.specs.Ordering.{nat_cmp, ordering_index}
use Rattle.std.proofs.lemmas.Cmp.{ranked}
use Rattle.std.proofs.lemmas.List.Sorted.{IsNonDecreasingBy-from_default}
use Rattle.std.proofs.lemmas.Bool.Decides.{nat_tests}
use Rattle.klp_names.specs.declared.timed.Timed.{Timed}
use Rattle.klp_names.specs.Names.{time_of, line_at, DoLinesRise, IsAt, IsGapFor}

abbrev pub never : Timed
never = record { line = 0; at = 0 }

abbrev NoLineBefore : List Timed → ℕ → ℕ → Type 0
NoLineBefore l k i = (j : ℕ) → j < i → line_at l j ≢ k

no_line_in_tail : (x : Timed) (l : List Timed) (k i : ℕ) → NoLineBefore (x ∷ l) k (suc i) → NoLineBefore l k i
no_line_in_tail x l k i no_line j lt = no_line (suc j) (omega arith)

is_at_tail : (x : Timed) (l : List Timed) (k i : ℕ) → IsAt (x ∷ l) k (suc i) → IsAt l k i
is_at_tail x l k i is_at = record { in_range = omega (arith, is_at.in_range); has_line = is_at.has_line }

time_absent : (l : List Timed) (k : ℕ) → NoLineBefore l k (length l) → time_of l k ≡ None
time_absent [] k no_line = refl
time_absent (x ∷ l) k no_line = grind (arith, nat_tests, no_line 0 (omega arith), time_absent l k (no_line_in_tail x l k _ no_line))

time_present : (l : List Timed) (k i : ℕ) → IsAt l k i → NoLineBefore l k i → time_of l k ≡ Some (get_or l i never).at
time_present [] k i is_at no_line = absurd (omega (arith, is_at.in_range))
time_present (x ∷ l) k zero is_at no_line = grind (arith, nat_tests, is_at.has_line)
time_present (x ∷ l) k (suc i) is_at no_line = grind (arith, nat_tests, no_line 0 (omega arith), time_present l k i (is_at_tail x l k i is_at) (no_line_in_tail x l k i no_line))

module _ (l : List Timed) (rise : DoLinesRise l) (k : ℕ) where
  comparisons_rise : IsNonDecreasingBy (λ timed. ordering_index (nat_cmp timed.line k)) l
  comparisons_rise = IsNonDecreasingBy-from_default (λ timed. ordering_index (nat_cmp timed.line k)) l never (λ i j le in_range.
      let lines_rise : line_at l i ≤ line_at l j = grind (arith, rise i j, λ (same : i ≡ j). ap (line_at l) same) in
      grind (arith, nat_tests))

  -- a binary search ends at the line, or at the gap for it
  pub searched : (r : Result ℕ ℕ) → IsSearchInRange r (length l) → IsBinarySearchResult (λ timed. nat_cmp timed.line k) l r → record { found : IfOk r (IsAt l k); absent : IfErr r (IsGapFor l k) }
  searched (Ok at) in_range equal = record { found = record { in_range = in_range; has_line = ranked _ k _ (sym (equal never)) }; absent = tt }
  searched (Err at) in_range parted = record {
    found = tt;
    absent = record {
      in_range = in_range;
      smaller_before = λ j lt. ranked _ k _ (sym ((parted comparisons_rise).0 j never (omega arith) lt));
      greater_after = λ j le lt. ranked _ k _ (sym ((parted comparisons_rise).1 j never le lt));
    };
  }

  -- the line is found at its place
  pub time_at : (at : ℕ) → IsAt l k at → time_of l k ≡ Some (get_or l at never).at
  time_at at is_at = time_present l k at is_at (λ j lt same. omega (arith, rise j at lt is_at.in_range, is_at.has_line))

  -- and not where there is a gap for it
  pub time_in_gap : (at : ℕ) → IsGapFor l k at → time_of l k ≡ None
  time_in_gap at gap = time_absent l k (λ j lt same. grind (arith, gap.smaller_before j, gap.greater_after j))
