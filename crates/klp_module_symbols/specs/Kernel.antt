-- The symbols of a kernel, as /proc/kallsyms lists them.
use Rattle.std.specs.Prelude.{ℕ, ◌-◌, suc, ◌==◌, ◌&&◌, ◌||◌, Bool, bytes_eq, codes, nat_lt, if◌then◌else◌, List, [], ◌∷◌, length, slice_index, slice_range, false, Option, Some, None, is_none, option_map}
use Rattle.std.specs.List.{filter_map, list_all}
use Rattle.std.specs.Str.Lines.{lines}
use Rattle.klp_words.specs.Words.{hexadecimal_of}
use Rattle.klp_catalog_text.specs.Lines.{words_of}
use Rattle.klp_module_symbols.specs.declared.rows.KernelRow.{KernelRow}
use Rattle.klp_module_symbols.specs.declared.rows.RowsFault.{RowsFault}
use Rattle.klp_module_symbols.specs.declared.rows.RowsFault.TheVariants.{BadLine, NoAddresses}

-- a symbol of a kernel, with the name of its object. That of a module's file has no address
pub record RowFacts : Type 0 where
  pub address : Option ℕ
  pub is_function : Bool
  pub name : List ℕ
  pub object : List ℕ

abbrev pub row_meaning : KernelRow → RowFacts
row_meaning row = record { address = row.address; is_function = row.is_function; name = row.name.now; object = row.object.now }

-- the name between the brackets of a module's word: `[` is 91, and `]` 93
abbrev pub bracketed : List ℕ → Option (List ℕ)
bracketed word =
    if nat_lt 1 (length word) && slice_index word 0 == 91 && slice_index word (length word - 1) == 93
    then Some (slice_range word 1 (length word - 1)) else None

-- a function has the letter `t` or `w`, in either case
abbrev pub is_function_letter : List ℕ → Bool
is_function_letter letter = bytes_eq letter (codes "t") || bytes_eq letter (codes "T") || bytes_eq letter (codes "w") || bytes_eq letter (codes "W")

-- the object by the words behind the name: the kernel's image if there are none
abbrev pub object_of_words : List (List ℕ) → Option (List ℕ)
object_of_words [] = Some (codes "vmlinux")
object_of_words (word ∷ words) = bracketed word

abbrev pub row_with : List ℕ → List ℕ → ℕ → Option (List ℕ) → Option RowFacts
row_with letter name address None = None
row_with letter name address (Some object) = Some (record { address = Some address; is_function = is_function_letter letter; name = name; object = object })

abbrev pub row_at : List ℕ → List ℕ → List (List ℕ) → Option ℕ → Option RowFacts
row_at letter name words None = None
row_at letter name words (Some address) = row_with letter name address (object_of_words words)

-- the row of a line: an address, a letter, a name, and a module in brackets
abbrev pub row_of_words : List (List ℕ) → Option RowFacts
row_of_words (address ∷ letter ∷ name ∷ words) = row_at letter name words (hexadecimal_of address)
row_of_words words = None

abbrev pub row_of_line : List ℕ → Option RowFacts
row_of_line line = row_of_words (words_of line)

-- all symbols of a kernel, in its order
abbrev pub rows_of : List ℕ → List RowFacts
rows_of text = filter_map row_of_line (lines text)

-- a line that isn't empty has no row
abbrev pub is_bad : List ℕ → Bool
is_bad line = nat_lt 0 (length line) && is_none (row_of_line line)

-- the number of the first line that is bad; the first of the list has this number
abbrev pub first_bad : (List ℕ → Bool) → ℕ → List (List ℕ) → Option ℕ
first_bad bad number [] = None
first_bad bad number (line ∷ lines) = if bad line then Some number else first_bad bad (suc number) lines

abbrev pub is_zero : Option ℕ → Bool
is_zero (Some address) = address == 0
is_zero None = false

-- there are rows, and all have the address 0
abbrev pub are_unknown : List RowFacts → Bool
are_unknown rows = nat_lt 0 (length rows) && list_all (λ (r : RowFacts). is_zero r.address) rows

abbrev pub unless_bad : Option RowsFault → List RowFacts → Option RowsFault
unless_bad (Some fault) rows = Some fault
unless_bad None rows = if are_unknown rows then Some NoAddresses else None

-- The first reason why a text isn't the list of a kernel's symbols: a line that is none, or addresses that only root reads.
abbrev pub rows_fault : List ℕ → Option RowsFault
rows_fault text = unless_bad (option_map BadLine (first_bad is_bad 1 (lines text))) (rows_of text)
