-- What a task is called, as a page spells it.
use Rattle.std.specs.Prelude.{ℕ, zero, suc, ◌&&◌, Bool, nat_lt, nat_le, List, [], ◌++◌, codes, length, take, slice_index, Option, Some, None, if◌then◌else◌}
use Rattle.klp_markup.specs.declared.called.TheConstants.{MAX_SHOWN}
use Rattle.klp_markup.specs.Escaped.{words_text}

-- a byte that goes on with a character of UTF-8, rather than begin one
abbrev pub goes_on : ℕ → Bool
goes_on b = nat_le 128 b && nat_lt b 192

-- the last place up to this one where a character begins
unfoldable pub last_begin : ℕ → List ℕ → ℕ
last_begin zero name = 0
last_begin (suc place) name = if goes_on (slice_index name (suc place)) then last_begin place name else suc place

-- a long name is cut in front of a character, with a mark
abbrev pub shown_text : List ℕ → List ℕ
shown_text name =
    if nat_lt MAX_SHOWN (length name) then words_text (take (last_begin MAX_SHOWN name) name) ++ codes "&hellip;" else words_text name

-- behind a task's number: what it is called, set apart, and without an effect on the direction of what follows
abbrev pub called_text : Option (List ℕ) → List ℕ
called_text None = []
called_text (Some name) = codes " <bdi class=m>" ++ shown_text name ++ codes "</bdi>"
