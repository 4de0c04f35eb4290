-- The symbols of a kernel's module, by its file.
use Rattle.std.specs.Prelude.{ℕ, ◌&&◌, ◌++◌, Bool, false, codes, nat_eq, nat_lt, not, if◌then◌else◌, List, map, filter, Option, Some, None, slice_get}
use Rattle.std.specs.List.{starts_with}
use Rattle.klp_elf.specs.Tables.{is_loaded}
use Rattle.klp_elf.specs.Looks.{is_function, section_name, symbol_name}
use Rattle.klp_elf.specs.declared.elf.Elf.{Elf}
use Rattle.klp_elf.specs.declared.row.Section.{Section}
use Rattle.klp_elf.specs.declared.row.Symbol.{Symbol}
use Rattle.klp_elf.specs.declared.row.SymbolSection.{SymbolSection}
use Rattle.klp_elf.specs.declared.row.SymbolSection.TheVariants.{In}
use Rattle.klp_module_symbols.specs.Kernel.{RowFacts}
use Rattle.klp_module_symbols.specs.Symbols.{is_known}

-- sections for the module's init are given back after it
abbrev pub is_for_init : Elf → Option Section → Bool
is_for_init elf None = false
is_for_init elf (Some section) = starts_with nat_eq (section_name elf section) (codes ".init")

-- a symbol is in a section that stays in memory as long as the module is loaded
abbrev pub stays : Elf → SymbolSection → Bool
stays elf (In section) =
    is_loaded (slice_get elf.sections.items section) && not (is_for_init elf (slice_get elf.sections.items section))
stays elf elsewhere = false

-- the kernel lists the symbol: it has a name, and is in a section that stays
abbrev pub is_listed : Elf → Symbol → Bool
is_listed elf symbol = nat_lt 0 symbol.name && stays elf symbol.section

abbrev pub file_row : Elf → List ℕ → Symbol → RowFacts
file_row elf object symbol = record { address = None; is_function = is_function symbol.kind; name = symbol_name elf symbol; object = object }

-- The symbols of a module, in the order of its symbol table, by which positions are counted.
abbrev pub rows_of_file : Elf → List ℕ → List RowFacts
rows_of_file elf object = map (file_row elf object) (filter (is_listed elf) elf.symbols.items)

-- Those of a module's file are added where the kernel has none of the module.
abbrev pub with_file : List RowFacts → Elf → List ℕ → List RowFacts
with_file rows elf object = if is_known rows object then rows else rows ++ rows_of_file elf object
