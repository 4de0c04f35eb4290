-- The words of a line, and what separates them.
use Rattle.std.specs.Prelude.{ℕ, ◌==◌, ◌||◌, not, Bool, List, length, filter}
use Rattle.std.specs.List.{slice_split}
use Rattle.klp_words.specs.declared.split.Separators.{Separators}
use Rattle.klp_words.specs.declared.split.Separators.TheVariants.{Spaces, SpacesAndTabs}

-- whether a byte separates words: a space does, and perhaps a tab
abbrev pub separates : Separators → ℕ → Bool
separates Spaces b = b == 32
separates SpacesAndTabs b = b == 32 || b == 9

-- whether a byte is one of two
abbrev pub is_either : ℕ → ℕ → ℕ → Bool
is_either one other b = b == one || b == other

abbrev pub is_some_word : List ℕ → Bool
is_some_word word = not (length word == 0)

-- the words of a line: the bytes between separators, if there are any
abbrev pub words_between : (ℕ → Bool) → List ℕ → List (List ℕ)
words_between is_separator line = filter is_some_word (slice_split is_separator line)
