-- Words and the tests of their bytes.
use Rattle.std.proofs.Common.{◌≡◌, ℕ, ◌<◌, ◌≤◌, ◌&&◌, Bool, true, false, nat_lt, nat_le, ◌==◌, List, [], ◌∷◌, length, position, Option, refl, ◌∙◌, arith}
use Rattle.std.proofs.lemmas.Bool.Decides.{nat_tests}
use Rattle.std.proofs.lemmas.Str.Ascii.{IsAscii-cons, IsAscii-nil}
use Rattle.std.specs.Str.{IsAscii}
use Rattle.std.specs.List.{list_all, before_first, after_first}
use Rattle.std.proofs.lemmas.Bool.{and_parts}
use Rattle.klp_words.specs.Words.{Spelling, spelling_of_parts, spelling_behind_prefix, is_name, is_name_byte, is_symbol_name, is_symbol_byte}

-- a length that is in range leaves the test of the bytes
pub length_tests : (n most : ℕ) (r : Bool) → (n == 0) ≡ false → n ≤ most → ((nat_lt 0 n && nat_le n most) && r) ≡ r
length_tests n most r some few = grind (arith, nat_tests)

-- bytes that all pass a test which only ASCII passes
pub ascii_from_all : (p : ℕ → Bool) → ((b : ℕ) → p b ≡ true → b < 128) → (bs : List ℕ) → list_all p bs ≡ true → IsAscii bs
ascii_from_all p low [] h = IsAscii-nil
ascii_from_all p low (b ∷ bs) h = IsAscii-cons b bs (low b (and_parts (p b) (list_all p bs) h).0) (ascii_from_all p low bs (and_parts (p b) (list_all p bs) h).1)

name_byte_low : (b : ℕ) → is_name_byte b ≡ true → b < 128
name_byte_low b h = grind (arith, nat_tests)

symbol_byte_low : (b : ℕ) → is_symbol_byte b ≡ true → b < 128
symbol_byte_low b h = grind (arith, nat_tests)

pub ascii_from_name : (word : List ℕ) → is_name word ≡ true → IsAscii word
ascii_from_name word h = ascii_from_all is_name_byte name_byte_low word (and_parts (nat_lt 0 (length word) && nat_le (length word) 55) (list_all is_name_byte word) h).1

pub ascii_from_symbol_name : (word : List ℕ) → is_symbol_name word ≡ true → IsAscii word
ascii_from_symbol_name word h = ascii_from_all is_symbol_byte symbol_byte_low word (and_parts (nat_lt 0 (length word) && nat_le (length word) 127) (list_all is_symbol_byte word) h).1

-- the parts round the first dot and the first comma behind it
pub parts_is : (text object rest symbol position : List ℕ) (r : Option Spelling) → object ≡ before_first (λ b. b == 46) text → rest ≡ after_first (λ b. b == 46) text
    → symbol ≡ before_first (λ b. b == 44) rest → position ≡ after_first (λ b. b == 44) rest → r ≡ spelling_of_parts object symbol position → r ≡ spelling_behind_prefix text
parts_is text object rest symbol position r a b c d e = e ∙ rw (a, c, d, b) refl
