-- How an address is written.
use Rattle.std.specs.Prelude.{ℕ, List}
use Rattle.std.specs.Int.{w64, to_be_bytes}
use Rattle.hex.specs.Hex.{encode_lower}

-- the eight bytes of the number, the highest first, each as two lower-case hexadecimal digits: 16 digits
abbrev pub address_text : ℕ → List ℕ
address_text n = encode_lower (to_be_bytes w64 n)
