-- Which lines of a catalog say that something isn't known, and what its marks say.
use Rattle.std.specs.Prelude.{◌≡◌, ℕ, Bool, false, ◌&&◌, List, [], ◌∷◌, drop, codes, nat_eq, bytes_eq, Contains}
use Rattle.std.specs.List.{list_any, starts_with}
use Rattle.std.specs.Str.Lines.{lines}
use Rattle.klp_catalog_text.specs.Lines.{words_of}
use Rattle.klp_lint_findings.specs.declared.marks.Mark.{Mark}
use Rattle.klp_lint_findings.specs.declared.marks.MarkWord.{MarkWord}

-- the first of these words is `unknown`
abbrev pub begins_unknown : List (List ℕ) → Bool
begins_unknown [] = false
begins_unknown (first ∷ words) = bytes_eq first (codes "unknown")

-- the line is a mark, which begins with `#? `, and the first word behind that is `unknown`
abbrev pub is_unknown_line : List ℕ → Bool
is_unknown_line line = starts_with nat_eq line (codes "#? ") && begins_unknown (words_of (drop 3 line))

-- some line of the catalog says that something isn't known
abbrev pub has_unknown : List ℕ → Bool
has_unknown text = list_any is_unknown_line (lines text)

-- the mark is one of these, and says this
abbrev pub IsMarked : List Mark → MarkWord → Mark → Type 0
IsMarked marks word mark = Contains marks mark × (mark.word ≡ word)
