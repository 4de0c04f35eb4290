-- A word and the tests of its bytes.
use Rattle.std.proofs.Common.{◌≡◌, ℕ, ◌<◌, ◌&&◌, Bool, true, false, nat_lt, ◌==◌, List, [], ◌∷◌, refl, sym, arith}
use Rattle.std.proofs.lemmas.Bool.{and_parts}
use Rattle.std.proofs.lemmas.Bool.Decides.{nat_tests}
use Rattle.std.proofs.lemmas.Str.{is_utf8-from_IsUtf8, IsUtf8-from_is_utf8, IsUtf8-from_ascii}
use Rattle.std.proofs.lemmas.Str.Ascii.{IsAscii-nil, IsAscii-cons}
use Rattle.std.specs.Char.{is_ascii}
use Rattle.std.specs.List.{list_all}
use Rattle.std.specs.Str.{IsAscii, IsUtf8, is_utf8}

-- a length that isn't 0 leaves the test of the bytes
pub length_test : (n : ℕ) (r : Bool) → (n == 0) ≡ false → (nat_lt 0 n && r) ≡ r
length_test n r some = grind (arith, nat_tests)

-- what the reading of text tells, as a test
pub is_text : (bs : List ℕ) → IsUtf8 bs → is_utf8 bs ≡ true
is_text bs h = is_utf8-from_IsUtf8 bs h

pub no_text : (bs : List ℕ) → (IsUtf8 bs → ⊥) → is_utf8 bs ≡ false
no_text bs fails = by (is_utf8 bs) refl
  where
    by : (b : Bool) → b ≡ is_utf8 bs → b ≡ false
    by false e = refl
    by true e = absurd (fails (IsUtf8-from_is_utf8 bs (sym e)))

low : (b : ℕ) → is_ascii b ≡ true → b < 128
low b h = grind (arith, nat_tests)

-- bytes that are ASCII one by one
pub ascii : (bs : List ℕ) → list_all is_ascii bs ≡ true → IsAscii bs
ascii [] h = IsAscii-nil
ascii (b ∷ bs) h =
    let parts = and_parts (is_ascii b) (list_all is_ascii bs) h in
    IsAscii-cons b bs (low b parts.0) (ascii bs parts.1)

-- and so text
pub ascii_text : (bs : List ℕ) → list_all is_ascii bs ≡ true → is_utf8 bs ≡ true
ascii_text bs h = is_text bs (IsUtf8-from_ascii bs (ascii bs h))
