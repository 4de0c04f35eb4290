-- A value of a shadow variable is read back from its text.
use Rattle.std.proofs.Common.{◌≡◌, ℕ, ◌+◌, ◌*◌, ◌<◌, ◌≤◌, ◌^◌, ◌==◌, Bool, true, false, nat_le, List, [], ◌∷◌, ◌++◌, length, get_or, Some, None, Ok, refl, ap, ◌∙◌, if◌then◌else◌, option_map, arith}
use Rattle.std.specs.Prelude.{codes}
use Rattle.std.proofs.lemmas.Bool.Decides.{nat_tests}
use Rattle.std.proofs.lemmas.Bool.{and_parts}
use Rattle.std.proofs.lemmas.Fmt.{decimal_nonempty, digits_decimal, digits_value-decimal}
use Rattle.std.proofs.lemmas.List.Elements.{All-cons}
use Rattle.std.proofs.lemmas.List.Sums.{AllPass-from_list_all}
use Rattle.std.proofs.lemmas.Nat.{le_bytes_8}
use Rattle.std.specs.Char.{is_ascii_digit}
use Rattle.std.specs.Fmt.{decimal}
use Rattle.std.specs.Int.{w64, to_le_bytes, from_le_bytes}
use Rattle.std.specs.List.{All, list_all}
use Rattle.hex.specs.Hex.{IsBytes, encode_lower, is_hex_digit}
use Rattle.hex.proofs.HexLemmas.{decode_of-ok, decode_of-encode_lower}
use Rattle.klp_types.specs.World.{ShadowValue}
use Rattle.klp_words.specs.Words.{decimal_of, fitting, shadow_value_of, written_as, value_text}
use Rattle.klp_words.proofs.NumberLemmas.{own, is_decimal_at}
use Rattle.klp_catalog_text.specs.Edits.{edit_value}
use Rattle.klp_catalog_text.specs.Spelled.{IsValue}

sum_below : (a b c d e f g h : ℕ) → a < 256 → b < 256 → c < 256 → d < 256 → e < 256 → f < 256 → g < 256 → h < 256
    → a + b * 256 + c * 65536 + d * 16777216 + e * 4294967296 + f * 1099511627776 + g * 281474976710656 + h * 72057594037927936 < 2 ^ 64
sum_below a b c d e f g h a' b' c' d' e' f' g' h' = omega arith

below : (value : List ℕ) → IsBytes value → from_le_bytes w64 value < 2 ^ 64
below value bytes = sum_below _ _ _ _ _ _ _ _ (bytes 0) (bytes 1) (bytes 2) (bytes 3) (bytes 4) (bytes 5) (bytes 6) (bytes 7)

-- ---- a number

digit_no_x : (b : ℕ) → is_ascii_digit b ≡ true → (b == 120) ≡ false
digit_no_x b h = grind (arith, nat_tests)

-- a word of digits is no bytes
from_digits : (word : List ℕ) → 0 < length word → list_all is_ascii_digit word ≡ true → shadow_value_of word ≡ option_map (to_le_bytes w64) (decimal_of (2 ^ 64) word)
from_digits [] some digits = absurd (omega arith)
from_digits (b ∷ bs) some digits = rw (digit_no_x b (and_parts (is_ascii_digit b) (list_all is_ascii_digit bs) digits).0) refl

number_written : (value : ShadowValue) → length value ≡ 8 → IsBytes value → shadow_value_of (decimal (from_le_bytes w64 value)) ≡ Some value
number_written value eight bytes =
    let n : ℕ = from_le_bytes w64 value in
    let small = below value bytes in
    let is = digits_value-decimal own n small in
    let yes = is_decimal_at (2 ^ 64) (decimal n) (decimal_nonempty n small) (digits_decimal own n small) (omega (arith, small, is)) in
    from_digits (decimal n) (decimal_nonempty n small) (digits_decimal own n small)
    ∙ rw yes (ap (λ m. Some (to_le_bytes w64 m)) is ∙ ap Some (le_bytes_8 value n eight bytes refl))

-- ---- bytes

few : (n most : ℕ) → n ≤ most → nat_le n most ≡ true
few n most h = grind (arith, nat_tests)

bytes_written : (value : ShadowValue) → IsValue value → shadow_value_of (codes "x" ++ encode_lower value) ≡ Some value
bytes_written value h = ap fitting (decode_of-encode_lower value h.1) ∙ rw (few (length value) 64 h.0) refl

-- ---- either

is_eight : (n : ℕ) → (n == 8) ≡ true → n ≡ 8
is_eight n h = grind (arith, nat_tests)

text_read : (value : ShadowValue) → IsValue value → shadow_value_of (value_text value) ≡ Some value
text_read value h = by (length value == 8) refl
  where
    by : (b : Bool) → (length value == 8) ≡ b → shadow_value_of (written_as (if b then Some (from_le_bytes w64 value) else None) value) ≡ Some value
    by true e = number_written value (is_eight (length value) e) h.1
    by false e = bytes_written value h

-- a value is read back from its text
pub value_read : (value : ShadowValue) → IsValue value → edit_value (value_text value) ≡ Ok value
value_read value h = rw (text_read value h) refl

-- ---- no colon

hex_no_colon : (b : ℕ) → is_hex_digit b ≡ true → (b == 58) ≡ false
hex_no_colon b h = grind (arith, nat_tests)

digit_no_colon : (b : ℕ) → is_ascii_digit b ≡ true → (b == 58) ≡ false
digit_no_colon b h = grind (arith, nat_tests)

-- and there is no colon in it
pub in_value : (value : ShadowValue) → IsValue value → All (λ b. (b == 58) ≡ false) (value_text value)
in_value value h = by (length value == 8)
  where
    by : (b : Bool) → All (λ c. (c == 58) ≡ false) (written_as (if b then Some (from_le_bytes w64 value) else None) value)
    by true =
        let n : ℕ = from_le_bytes w64 value in
        let digits = AllPass-from_list_all is_ascii_digit (decimal n) (digits_decimal own n (below value h.1)) in
        λ k d lt. digit_no_colon (get_or (decimal n) k d) (digits k d lt)
    by false =
        let digits = (decode_of-ok (encode_lower value) value (decode_of-encode_lower value h.1)).1 in
        All-cons (λ c. (c == 58) ≡ false) 120 (encode_lower value) refl (λ k d lt. hex_no_colon (get_or (encode_lower value) k d) (digits k d lt))
