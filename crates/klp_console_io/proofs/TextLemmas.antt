-- Bytes that are turned into digits piece by piece.
use Rattle.std.proofs.Common.{◌≡◌, ℕ, ◌+◌, ◌≤◌, List, [], ◌∷◌, ◌++◌, length, take, drop, refl, sym, ap, ◌∙◌, arith, length-drop}
use Rattle.std.proofs.lemmas.List.{length-take-le}
use Rattle.std.proofs.Math.Seq.{take-add}
use Rattle.std.specs.Prelude.{slice_index, ◌/◌, ◌%◌}
use Rattle.hex.specs.Hex.{encode_with, encode_lower, lower_digits}
use Rattle.hex.proofs.HexLemmas.{length-encode_with}
use Rattle.std.specs.Int.{w64, to_be_bytes}
use Rattle.klp_console_io.specs.Texts.{address_text}

encode_with-append : (t xs ys : List ℕ) → encode_with t (xs ++ ys) ≡ encode_with t xs ++ encode_with t ys
unfolding encode_with
encode_with-append t [] ys = refl
encode_with-append t (x ∷ xs) ys = ap (λ digits. slice_index t (x / 16) ∷ slice_index t (x % 16) ∷ digits) (encode_with-append t xs ys)

-- no bytes have no digits
pub no_digits : encode_lower [] ≡ []
unfolding encode_with
no_digits = refl

-- a piece has as many bytes as are asked for
pub length_piece : (bytes : List ℕ) (i n : ℕ) → i + n ≤ length bytes → length (take n (drop i bytes)) ≡ n
length_piece bytes i n fits = let left = length-drop i bytes in length-take-le n (drop i bytes) (omega arith)

-- the digits of one piece more
pub digits_on : (bytes digits : List ℕ) (i n : ℕ) → i + n ≤ length bytes → digits ≡ encode_lower (take n (drop i bytes))
    → encode_lower (take i bytes) ++ digits ≡ encode_lower (take (i + length (take n (drop i bytes))) bytes)
digits_on bytes digits i n fits are =
    ap (λ ds. encode_lower (take i bytes) ++ ds) are
    ∙ sym (encode_with-append lower_digits (take i bytes) (take n (drop i bytes)))
    ∙ ap encode_lower (sym (take-add i n bytes))
    ∙ ap (λ k. encode_lower (take (i + k) bytes)) (sym (length_piece bytes i n fits))

-- an address has 16 digits
pub length-address_text : (n : ℕ) → length (address_text n) ≡ 16
length-address_text n = length-encode_with lower_digits (to_be_bytes w64 n)
