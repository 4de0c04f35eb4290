-- How text of a run is spelled in a page.
use Rattle.std.specs.Prelude.{ℕ, ◌+◌, ◌-◌, ◌==◌, ◌||◌, nat_lt, Bool, List, [], ◌∷◌, ◌++◌, codes, if◌then◌else◌}
use Rattle.std.specs.Fmt.{decimal}
use Rattle.klp_markup.specs.Characters.{shown_bytes}

-- A byte that a browser could take for markup is spelled by its name. A control byte, but for a line feed, is spelled by its picture.
abbrev pub escaped_byte : ℕ → List ℕ
escaped_byte b =
    if b == 38 then codes "&amp;"
    else if b == 60 then codes "&lt;"
    else if b == 62 then codes "&gt;"
    else if b == 34 then codes "&quot;"
    else if b == 39 then codes "&#39;"
    else if b == 10 then b ∷ []
    else if nat_lt b 32 then codes "&#" ++ decimal (9216 + b) ++ codes ";"
    else if b == 127 then codes "&#9249;"
    else b ∷ []

-- The first byte b of a text, of whose character before so many bytes are still to come. A byte that begins no character, or one that acts on
-- what is around it, is spelled as the mark for what isn't text.
abbrev pub first_text : ℕ → ℕ → List ℕ → List ℕ
first_text kept b text =
    if nat_lt 0 kept then b ∷ [] else if shown_bytes text == 0 then codes "&#65533;" else escaped_byte b

-- how many bytes of a character are still to come behind the first byte
abbrev pub kept_behind : ℕ → List ℕ → ℕ
kept_behind kept text = if nat_lt 0 kept then kept - 1 else shown_bytes text - 1

-- a text, of whose character before so many bytes are still to come
abbrev pub escaped_behind : ℕ → List ℕ → List ℕ
escaped_behind kept [] = []
escaped_behind kept (b ∷ bytes) = first_text kept b (b ∷ bytes) ++ escaped_behind (kept_behind kept (b ∷ bytes)) bytes

abbrev pub escaped : List ℕ → List ℕ
escaped text = escaped_behind 0 text

-- a point, an underscore and a comma end a word of a name
abbrev pub ends_word : ℕ → Bool
ends_word b = b == 46 || b == 95 || b == 44

-- behind the words of a name a browser may break the line
abbrev pub break_behind : ℕ → List ℕ
break_behind b = if ends_word b then codes "<wbr>" else []

abbrev pub words_behind : ℕ → List ℕ → List ℕ
words_behind kept [] = []
words_behind kept (b ∷ bytes) = first_text kept b (b ∷ bytes) ++ break_behind b ++ words_behind (kept_behind kept (b ∷ bytes)) bytes

abbrev pub words_text : List ℕ → List ℕ
words_text name = words_behind 0 name

-- a name that is set apart
abbrev pub name_text : List ℕ → List ℕ
name_text name = codes "<span class=m>" ++ words_text name ++ codes "</span>"
