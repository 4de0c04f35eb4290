-- How words are spelled: names, addresses, decimal numbers, values of shadow variables, and symbols with their
-- object and position.
use Rattle.std.specs.Prelude.{ℕ, ℤ, pos, neg_ℤ, ◌+◌, ◌^◌, ◌==◌, ◌&&◌, ◌||◌, Bool, nat_eq, nat_lt, nat_le, if◌then◌else◌, List, [], ◌∷◌, ◌++◌, length, drop, codes, Option, Some, None, option_map, Result, Ok, Err}
use Rattle.std.specs.List.{list_all, starts_with, before_first, after_first}
use Rattle.std.specs.Char.{is_ascii_alphanumeric, is_ascii_digit, is_ascii_hexdigit}
use Rattle.std.specs.Fmt.{decimal}
use Rattle.std.specs.Int.{w64, to_le_bytes}
use Rattle.std.specs.Str.Parse.{digits_value}
use Rattle.hex.specs.declared.error.FromHexError.{FromHexError}
use Rattle.hex.specs.Hex.{decode_of, encode_lower}
use Rattle.klp_types.specs.declared.limits.TheConstants.{MAX_NAME, MAX_SYMBOL_NAME, MAX_ADDRESS_DIGITS, MAX_VALUE_BYTES}
use Rattle.klp_types.specs.World.{ShadowValue, number_of}

-- a letter, a digit, `_` or `-`
abbrev pub is_name_byte : ℕ → Bool
is_name_byte b = is_ascii_alphanumeric b || b == 95 || b == 45

-- a letter, a digit, `_`, `.` or `$`
abbrev pub is_symbol_byte : ℕ → Bool
is_symbol_byte b = is_ascii_alphanumeric b || b == 95 || b == 46 || b == 36

-- a name of an object, a patch or a new function: 1 to 55 bytes
abbrev pub is_name : List ℕ → Bool
is_name word = nat_lt 0 (length word) && nat_le (length word) MAX_NAME && list_all is_name_byte word

-- a name of a symbol: 1 to 127 bytes
abbrev pub is_symbol_name : List ℕ → Bool
is_symbol_name word = nat_lt 0 (length word) && nat_le (length word) MAX_SYMBOL_NAME && list_all is_symbol_byte word

-- an address is 1 to 16 hexadecimal digits, in either case
abbrev pub is_address : List ℕ → Bool
is_address word = nat_lt 0 (length word) && nat_le (length word) MAX_ADDRESS_DIGITS && list_all is_ascii_hexdigit word

abbrev pub hexadecimal_of : List ℕ → Option ℕ
hexadecimal_of word = if is_address word then Some (digits_value 16 word) else None

-- decimal digits of a number below the limit; leading zeros are allowed
abbrev pub is_decimal : ℕ → List ℕ → Bool
is_decimal limit word = nat_lt 0 (length word) && list_all is_ascii_digit word && nat_lt (digits_value 10 word) limit

abbrev pub decimal_of : ℕ → List ℕ → Option ℕ
decimal_of limit word = if is_decimal limit word then Some (digits_value 10 word) else None

-- a status is a signed number of 32 bits: digits, or a minus and digits
abbrev pub status_of : List ℕ → Option ℤ
status_of [] = None
status_of (b ∷ bs) =
    if b == 45 then option_map (λ n. neg_ℤ (pos n)) (decimal_of (2 ^ 31 + 1) bs)
    else option_map pos (decimal_of (2 ^ 31) (b ∷ bs))

-- the bytes, if they could be decoded and fit a value
abbrev pub fitting : Result (List ℕ) FromHexError → Option ShadowValue
fitting (Ok bytes) = if nat_le (length bytes) MAX_VALUE_BYTES then Some bytes else None
fitting (Err error) = None

-- the bytes that two hexadecimal digits each spell, in either case
abbrev pub spelled_bytes : List ℕ → Option ShadowValue
spelled_bytes digits = fitting (decode_of digits)

-- the value of a shadow variable: `x` and its bytes, or a decimal number of 64 bits, which means its eight bytes
abbrev pub shadow_value_of : List ℕ → Option ShadowValue
shadow_value_of [] = None
shadow_value_of (first ∷ rest) =
    if first == 120 then spelled_bytes rest
    else option_map (to_le_bytes w64) (decimal_of (2 ^ 64) (first ∷ rest))

-- how a value is written: as a number if it is one, else as its bytes
abbrev pub written_as : Option ℕ → ShadowValue → List ℕ
written_as (Some number) value = decimal number
written_as None value = codes "x" ++ encode_lower value

abbrev pub value_text : ShadowValue → List ℕ
value_text value = written_as (number_of value) value

-- the position of a symbol is a number of 32 bits
abbrev pub sympos_of : List ℕ → Option ℕ
sympos_of word = decimal_of (2 ^ 32) word

-- the symbol that a function replaces, with its object
pub record Spelling : Type 0 where
  pub object : List ℕ
  pub symbol : List ℕ
  pub sympos : ℕ

abbrev pub spelling_of_parts : List ℕ → List ℕ → List ℕ → Option Spelling
spelling_of_parts object symbol position =
    if is_name object && is_symbol_name symbol
    then option_map (λ n. record { object = object; symbol = symbol; sympos = n }) (sympos_of position)
    else None

-- the object's name ends at the first dot, and the symbol's name at the first comma after that dot
abbrev pub spelling_behind_prefix : List ℕ → Option Spelling
spelling_behind_prefix text =
    let symbol_on = after_first (λ b. b == 46) text in
    spelling_of_parts (before_first (λ b. b == 46) text) (before_first (λ b. b == 44) symbol_on) (after_first (λ b. b == 44) symbol_on)

-- the symbol that `.klp.sym.objname.symbol_name,sympos` spells
abbrev pub spelling_of : List ℕ → Option Spelling
spelling_of word = if starts_with nat_eq word (codes ".klp.sym.") then spelling_behind_prefix (drop 9 word) else None
