-- The words of a console line, and what can be read from a word without names.
use Rattle.std.specs.Prelude.{ℕ, ◌^◌, ◌==◌, ◌&&◌, not, Bool, nat_lt, nat_le, if◌then◌else◌, List, [], ◌∷◌, length, ok_or, Result, Ok, Err}
use Rattle.std.specs.List.{list_all}
use Rattle.klp_types.specs.World.{ShadowValue}
use Rattle.klp_words.specs.Words.{decimal_of, shadow_value_of}
use Rattle.klp_words.specs.declared.split.Separators.TheVariants.{Spaces}
use Rattle.klp_words.specs.Split.{separates, words_between}
use Rattle.klp_words.specs.Steps.{◌>>=◌}
use Rattle.klp_console_commands.specs.declared.fault.LineFault.{LineFault}
use Rattle.klp_console_commands.specs.declared.fault.LineFault.TheVariants.{BadLine}

-- only spaces separate words: a tab is a byte like any other
abbrev pub words_of : List ℕ → List (List ℕ)
words_of line = words_between (separates Spaces) line

-- any byte but `/` and `:`
abbrev pub is_name_byte : ℕ → Bool
is_name_byte b = not (b == 47) && not (b == 58)

-- a word that may name a patch or an object
abbrev pub is_console_name : List ℕ → Bool
is_console_name word = nat_lt 0 (length word) && list_all is_name_byte word

-- the one word that is left
abbrev pub only_word : List (List ℕ) → Result (List ℕ) LineFault
only_word (word ∷ []) = Ok word
only_word words = Err BadLine

-- the word, if it may name a patch or an object
abbrev pub name_of : List ℕ → Result (List ℕ) LineFault
name_of word = if is_console_name word then Ok word else Err BadLine

-- the one word that is left, which may name a patch or an object
abbrev pub only_name : List (List ℕ) → Result (List ℕ) LineFault
only_name words = only_word words >>= name_of

-- the two words that are left
abbrev pub two_words : List (List ℕ) → Result (List ℕ × List ℕ) LineFault
two_words (first ∷ second ∷ []) = Ok (first, second)
two_words words = Err BadLine

-- the number that decimal digits spell, below 2^64
abbrev pub number_of : List ℕ → Result ℕ LineFault
number_of word = ok_or (decimal_of (2 ^ 64) word) BadLine

-- the value of a shadow variable
abbrev pub value_of : List ℕ → Result ShadowValue LineFault
value_of word = ok_or (shadow_value_of word) BadLine

-- the number, if it is at most this one
abbrev pub at_most : ℕ → ℕ → Result ℕ LineFault
at_most most number = if nat_le number most then Ok number else Err BadLine

-- the number that decimal digits spell, at most this one
abbrev pub number_to : ℕ → List ℕ → Result ℕ LineFault
number_to most word = number_of word >>= at_most most
