-- How times are spelled: as seconds, with decimals where they aren't whole.
use Rattle.std.specs.Prelude.{ℕ, ◌+◌, ◌-◌, ◌*◌, ◌^◌, ◌==◌, ◌||◌, nat_lt, if◌then◌else◌, List, ◌++◌, length, take, drop, replicate, position, Option, Some, None, option_and_then}
use Rattle.klp_words.specs.Words.{decimal_of}

-- one to six decimals, as millionths: `5` is 500000, since decimals that aren't written are 0
abbrev pub millionths_of : List ℕ → Option ℕ
millionths_of decimals =
    if length decimals == 0 || nat_lt 6 (length decimals) then None
    else decimal_of (2 ^ 64) (decimals ++ replicate (6 - length decimals) 48)

-- a number that 64 bits can hold
abbrev pub within_64_bits : ℕ → Option ℕ
within_64_bits number = if nat_lt number (2 ^ 64) then Some number else None

-- the microseconds of whole seconds and millionths of one
abbrev pub microseconds_of : ℕ → ℕ → Option ℕ
microseconds_of seconds millionths = within_64_bits (seconds * 1000000 + millionths)

-- digits alone are whole seconds; where there is a point, at a position, the decimals are behind it
abbrev pub seconds_with_point : Option ℕ → List ℕ → Option ℕ
seconds_with_point None word = option_and_then (λ s. microseconds_of s 0) (decimal_of (2 ^ 64) word)
seconds_with_point (Some point) word =
    option_and_then (λ s. option_and_then (microseconds_of s) (millionths_of (drop (point + 1) word))) (decimal_of (2 ^ 64) (take point word))

-- `12` or `12.345` seconds, in microseconds
abbrev pub seconds_of : List ℕ → Option ℕ
seconds_of word = seconds_with_point (position (λ b. b == 46) word) word
