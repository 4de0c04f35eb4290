-- What the words of a catalog's line mean: names, addresses, bodies, numbers, and the symbol of a function.
use Rattle.std.specs.Prelude.{ℕ, ◌^◌, if◌then◌else◌, List, Option, Some, None, ok_or, Result, Ok, Err, bytes_eq}
use Rattle.hex.specs.declared.error.FromHexError.{FromHexError}
use Rattle.hex.specs.Hex.{decode_of}
use Rattle.klp_catalog_text.specs.declared.fault.TextFaultKind.{TextFaultKind}
use Rattle.klp_catalog_text.specs.declared.fault.TextFaultKind.TheVariants.{BadNumber, BadHex, BadName, BadSymbol}
use Rattle.klp_words.specs.Words.{is_name, is_symbol_name, hexadecimal_of, decimal_of, Spelling}

abbrev pub address_of : List ℕ → Result ℕ TextFaultKind
address_of word = ok_or (hexadecimal_of word) BadHex

abbrev pub name_of : List ℕ → Result (List ℕ) TextFaultKind
name_of word = if is_name word then Ok word else Err BadName

abbrev pub symbol_name_of : List ℕ → Result (List ℕ) TextFaultKind
symbol_name_of word = if is_symbol_name word then Ok word else Err BadName

-- a body is pairs of hexadecimal digits, in either case
abbrev pub decoded : Result (List ℕ) FromHexError → Result (List ℕ) TextFaultKind
decoded (Ok body) = Ok body
decoded (Err error) = Err BadHex

abbrev pub body_of : List ℕ → Result (List ℕ) TextFaultKind
body_of word = decoded (decode_of word)

-- the id of a system state is a number of 64 bits
abbrev pub id_of : List ℕ → Result ℕ TextFaultKind
id_of word = ok_or (decimal_of (2 ^ 64) word) BadNumber

-- the version of a system state is a number of 32 bits
abbrev pub version_of : List ℕ → Result ℕ TextFaultKind
version_of word = ok_or (decimal_of (2 ^ 32) word) BadNumber

-- the spelling of a symbol, which must be in the open target's object, if a target is open
abbrev pub in_target : Option (List ℕ) → Spelling → Result Spelling TextFaultKind
in_target None spelling = Ok spelling
in_target (Some object) spelling = if bytes_eq spelling.object object then Ok spelling else Err BadSymbol

abbrev pub symbol_of : Option (List ℕ) → Option Spelling → Result Spelling TextFaultKind
symbol_of target None = Err BadSymbol
symbol_of target (Some spelling) = in_target target spelling
