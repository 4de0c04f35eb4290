-- Values by their digits, computed.
use Rattle.std.proofs.Common.{◌≡◌, [], ◌∷◌, replicate, Some, None, refl, arith}
use Rattle.std.specs.Prelude.{codes}
use Rattle.std.proofs.lemmas.Fmt.{decimal_digit}
use Rattle.hex.specs.Hex.{decode_pairs, encode_with}
use Rattle.klp_words.specs.Words.{spelled_bytes, value_text}

pub two_bytes : spelled_bytes (codes "0aFf") ≡ Some (10 ∷ 255 ∷ [])
unfolding decode_pairs
two_bytes = refl

pub no_bytes : spelled_bytes [] ≡ Some []
unfolding decode_pairs
no_bytes = refl

pub no_digit : spelled_bytes (codes "0g") ≡ None
unfolding decode_pairs
no_digit = refl

pub longest : spelled_bytes (replicate 128 48) ≡ Some (replicate 64 0)
unfolding decode_pairs
longest = refl

pub too_long : spelled_bytes (replicate 130 48) ≡ None
unfolding decode_pairs
too_long = refl

pub five : value_text (5 ∷ 0 ∷ 0 ∷ 0 ∷ 0 ∷ 0 ∷ 0 ∷ 0 ∷ []) ≡ codes "5"
five = decimal_digit 5 (omega arith)

pub bytes_written : value_text (10 ∷ 255 ∷ []) ≡ codes "x0aff"
unfolding encode_with
bytes_written = refl

pub nothing_written : value_text [] ≡ codes "x"
unfolding encode_with
nothing_written = refl
