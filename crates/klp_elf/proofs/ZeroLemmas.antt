-- What stands before the first byte that passes a test.
use Rattle.std.proofs.Common.{◌≡◌, ℕ, ◌<◌, ◌≤◌, Bool, true, false, nat_lt, cond, List, length, position, Some, None, refl, sym, arith}
use Rattle.std.proofs.lemmas.Bool.Decides.{nat_tests}
use Rattle.std.proofs.lemmas.Grind.{common_steps}
use Rattle.std.proofs.lemmas.List.{take_all}
use Rattle.std.specs.List.{before_first, position_or_len}

found_by : (b : Bool) (n m : ℕ) → Some n ≡ cond b (Some m) None → n ≡ m
found_by true n m h = cc
found_by false n m h = absurd cc

pub found_at : {A : Type 0} (p : A → Bool) (xs : List A) (n : ℕ) → position p xs ≡ Some n → n ≡ position_or_len p xs
found_at p xs n h = found_by (nat_lt (position_or_len p xs) (length xs)) n (position_or_len p xs) (sym h)

pub found_within : {A : Type 0} (p : A → Bool) (xs : List A) (n : ℕ) → position p xs ≡ Some n → n < length xs
found_within p xs n h = grind (arith, common_steps)

missing_by : (m n : ℕ) (b : Bool) → b ≡ nat_lt m n → cond b (Some m) None ≡ None → n ≤ m
missing_by m n true e h = absurd cc
missing_by m n false e h = grind (arith, nat_tests)

missing_from : {A : Type 0} (p : A → Bool) (xs : List A) → position p xs ≡ None → length xs ≤ position_or_len p xs
missing_from p xs h = missing_by (position_or_len p xs) (length xs) (nat_lt (position_or_len p xs) (length xs)) refl h

pub before_none : (p : ℕ → Bool) (xs : List ℕ) → position p xs ≡ None → before_first p xs ≡ xs
before_none p xs h = take_all (position_or_len p xs) xs (missing_from p xs h)
