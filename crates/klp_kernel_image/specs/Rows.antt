-- The symbols of an image, as a kernel lists them.
use Rattle.std.specs.Prelude.{ℕ, List, [], ◌∷◌, Some, codes}
use Rattle.klp_module_symbols.specs.Kernel.{RowFacts, is_function_letter}
use Rattle.klp_kernel_image.specs.declared.image.ImageSymbol.{ImageSymbol}
use Rattle.klp_kernel_image.specs.Names.{text_part}

-- the row of a symbol, whose name stands in the text of all names
abbrev pub symbol_row : List ℕ → ImageSymbol → RowFacts
symbol_row text symbol = record {
  address = Some symbol.address;
  is_function = is_function_letter (symbol.letter ∷ []);
  name = text_part symbol.start symbol.length text;
  object = codes "vmlinux";
}
