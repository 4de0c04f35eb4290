-- What the words behind the name of a program ask for.
use Rattle.std.specs.Prelude.{ℕ, Bool, false, not, ◌==◌, ◌&&◌, if◌then◌else◌, List, [], ◌∷◌, codes, bytes_eq, string_bytes, Option, Some, None, option_map, option_and_then}
use Rattle.klp_program.specs.declared.wanted.Wanted.{Wanted}
use Rattle.klp_program.specs.declared.wanted.Wanted.TheVariants.{Console, Live}

abbrev pub begins_with_dash : List ℕ → Bool
begins_with_dash [] = false
begins_with_dash (b ∷ bytes) = b == 45

-- what klpsim is to do: to serve standard input over the catalog in a file, or over the built-in one; or to run the steps of a file over a
-- catalog
pub data Asked : Type 0 where
  console : Option (List ℕ) → Asked
  live : List ℕ → List ℕ → Asked

-- the files among words, in their order: all behind the first `--`, and before it each that doesn't begin with `-`, or is `-` alone
abbrev pub files_of : List (List ℕ) → Option (List (List ℕ))
files_of [] = Some []
files_of (word ∷ words) = if bytes_eq word (codes "--") then Some words
    else if begins_with_dash word && not (bytes_eq word (codes "-")) then None
    else option_map (λ files. word ∷ files) (files_of words)

abbrev pub console_over : List (List ℕ) → Option Asked
console_over [] = Some (console None)
console_over (catalog ∷ []) = Some (console (Some catalog))
console_over files = None

abbrev pub live_over : List (List ℕ) → Option Asked
live_over (catalog ∷ steps ∷ []) = Some (live catalog steps)
live_over files = None

-- no word, or only the one that ends the options
abbrev pub none_over : List (List ℕ) → Option Asked
none_over [] = Some (console None)
none_over words = None

abbrev pub asked_of : List (List ℕ) → Option Asked
asked_of [] = Some (console None)
asked_of (word ∷ words) = if bytes_eq (codes "console") word then option_and_then console_over (files_of words)
    else if bytes_eq (codes "live") word then option_and_then live_over (files_of words)
    else if bytes_eq word (codes "--") then none_over words else None

abbrev pub meaning : Wanted → Asked
meaning (Console None) = console None
meaning (Console (Some path)) = console (Some (string_bytes path))
meaning (Live catalog steps) = live (string_bytes catalog) (string_bytes steps)
