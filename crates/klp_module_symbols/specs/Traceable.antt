-- The functions that a kernel can trace, as available_filter_functions lists them. It can patch no others.
use Rattle.std.specs.Prelude.{ℕ, ◌&&◌, Bool, bytes_eq, not, nat_lt, List, [], ◌∷◌, length, Option, Some, None, is_none}
use Rattle.std.specs.List.{filter_map, list_any}
use Rattle.std.specs.Str.Lines.{lines}
use Rattle.klp_catalog_text.specs.Lines.{words_of}
use Rattle.klp_module_matrix.specs.Names.{object_name}
use Rattle.klp_module_matrix.specs.Changes.{Change}
use Rattle.klp_module_symbols.specs.Kernel.{object_of_words}
use Rattle.klp_module_symbols.specs.declared.traceable.TraceableRow.{TraceableRow}

-- a function, with the name of its object
pub record TraceableFacts : Type 0 where
  pub name : List ℕ
  pub object : List ℕ

abbrev pub traceable_meaning : TraceableRow → TraceableFacts
traceable_meaning row = record { name = row.name.now; object = row.object.now }

abbrev pub traceable_with : List ℕ → Option (List ℕ) → Option TraceableFacts
traceable_with name None = None
traceable_with name (Some object) = Some (record { name = name; object = object })

-- the function of a line: a name, and a module in brackets if it isn't of the kernel's image
abbrev pub traceable_of_words : List (List ℕ) → Option TraceableFacts
traceable_of_words (name ∷ words) = traceable_with name (object_of_words words)
traceable_of_words [] = None

abbrev pub traceable_of_line : List ℕ → Option TraceableFacts
traceable_of_line line = traceable_of_words (words_of line)

-- all functions that a list has, in its order
abbrev pub traceable_of : List ℕ → List TraceableFacts
traceable_of text = filter_map traceable_of_line (lines text)

-- a line that isn't empty has no function
abbrev pub is_bad_line : List ℕ → Bool
is_bad_line line = nat_lt 0 (length line) && is_none (traceable_of_line line)

-- the list has functions of an object, so it has all of them that can be traced
abbrev pub is_judged : List TraceableFacts → List ℕ → Bool
is_judged rows object = list_any (λ (r : TraceableFacts). bytes_eq r.object object) rows

abbrev pub is_of_change : Change → TraceableFacts → Bool
is_of_change change row = bytes_eq row.object (object_name change.object) && bytes_eq row.name change.name

-- The kernel refuses a patch with this change: the function's object is listed, and no function of its name in it.
abbrev pub is_untraceable : List TraceableFacts → Change → Bool
is_untraceable rows change = is_judged rows (object_name change.object) && not (list_any (is_of_change change) rows)
