-- Which bytes of a text of a run a page shows as they are.
use Rattle.std.specs.Prelude.{ℕ, ◌==◌, ◌&&◌, ◌||◌, nat_le, nat_lt, Bool, List, if◌then◌else◌, slice_get, unwrap_or}

abbrev pub is_within : ℕ → ℕ → ℕ → Bool
is_within low high b = nat_le low b && nat_le b high

-- the byte at a place. Behind a text there is none, and 0 goes on with no character
abbrev pub byte_at : List ℕ → ℕ → ℕ
byte_at bytes place = unwrap_or (slice_get bytes place) 0

-- a byte that goes on with a character
abbrev pub goes_on_at : List ℕ → ℕ → Bool
goes_on_at bytes place = is_within 128 191 (byte_at bytes place)

-- the second bytes that may follow the first one of a character of two bytes or more, by the table of well-formed UTF-8
abbrev pub may_follow : ℕ → ℕ → Bool
may_follow first second =
    if first == 224 then is_within 160 191 second
    else if first == 237 then is_within 128 159 second
    else if first == 240 then is_within 144 191 second
    else if first == 244 then is_within 128 143 second
    else is_within 128 191 second

-- a character of two bytes that acts on what is around it: the control characters from U+0080 on, and the mark U+061C
abbrev pub acts_by_two : ℕ → ℕ → Bool
acts_by_two first second = (first == 194 && is_within 128 159 second) || (first == 216 && second == 156)

-- one of three bytes: U+200E, U+200F, U+2028 to U+202E, and U+2066 to U+2069
abbrev pub acts_by_three : ℕ → ℕ → ℕ → Bool
acts_by_three first second third = first == 226
    && ((second == 128 && (is_within 142 143 third || is_within 168 174 third)) || (second == 129 && is_within 166 169 third))

-- how many bytes a character has that begins with three bytes; 0 where it acts on what is around it
abbrev pub shown_by_three : List ℕ → ℕ → ℕ → ℕ
shown_by_three text first second =
    if nat_lt first 240 then (if acts_by_three first second (byte_at text 2) then 0 else 3) else if goes_on_at text 3 then 4 else 0

-- the same of one that begins with two
abbrev pub shown_behind : List ℕ → ℕ → ℕ → ℕ
shown_behind text first second =
    if nat_lt first 224 then (if acts_by_two first second then 0 else 2)
    else if goes_on_at text 2 then shown_by_three text first second else 0

-- how many bytes the character has with which the text begins; 0 where it begins with none, or with one that acts on what is around it
abbrev pub shown_bytes : List ℕ → ℕ
shown_bytes text =
    let first = byte_at text 0 in
    let second = byte_at text 1 in
    if nat_lt first 128 then 1
    else if is_within 194 244 first && may_follow first second then shown_behind text first second
    else 0
