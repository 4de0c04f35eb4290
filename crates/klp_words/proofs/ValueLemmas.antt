-- Bytes that are spelled by hexadecimal digits.
use Rattle.std.proofs.Common.{◌≡◌, ℕ, ◌/◌, ◌<◌, false, nat_le, List, length, None, Result, Ok, Err, refl, arith}
use Rattle.std.proofs.lemmas.Bool.Decides.{nat_tests}
use Rattle.hex.specs.declared.error.FromHexError.{FromHexError}
use Rattle.hex.specs.Hex.{decode_of}
use Rattle.hex.proofs.HexLemmas.{decode_of-ok}
use Rattle.klp_words.specs.Words.{fitting, spelled_bytes}

too_long : (n most : ℕ) → most < n → nat_le n most ≡ false
too_long n most h = grind (arith, nat_tests)

-- digits of more bytes than a value has
pub too_many_digits : (digits : List ℕ) → 64 < length digits / 2 → None ≡ spelled_bytes digits
too_many_digits digits many = by (decode_of digits) refl
  where
    by : (r : Result (List ℕ) FromHexError) → decode_of digits ≡ r → None ≡ fitting r
    by (Ok bytes) e =
        let twice = (decode_of-ok digits bytes e).2 in
        rw (too_long (length bytes) 64 (omega (arith, many, twice))) refl
    by (Err error) e = refl
