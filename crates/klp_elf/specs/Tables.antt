-- The tables of a file: its sections, symbols and relocations, each in the file's order.
use Rattle.std.specs.Prelude.{ℕ, zero, suc, ◌*◌, ◌/◌, ◌==◌, ◌&&◌, bit_and, not, if◌then◌else◌, Bool, true, false, List, [], ◌∷◌, ◌++◌, length, slice_get, Option, Some, None}
use Rattle.std.specs.List.{find, flat_map}
use Rattle.klp_elf.specs.Numbers.{number_at}
use Rattle.klp_elf.specs.Parts.{part, bytes_in, bytes_of, bytes_of_some}
use Rattle.klp_elf.specs.Rows.{section_at, symbol_at, relocation_at}
use Rattle.klp_elf.specs.declared.header.Header.{Header}
use Rattle.klp_elf.specs.declared.row.Section.{Section}
use Rattle.klp_elf.specs.declared.row.SectionKind.{SectionKind}
use Rattle.klp_elf.specs.declared.row.SectionKind.TheVariants.{Symbols, Relocations}
use Rattle.klp_elf.specs.declared.row.Symbol.{Symbol}
use Rattle.klp_elf.specs.declared.row.Relocation.{Relocation}

-- what a function gives for each number below one, in order
abbrev pub first_values : {X : Type 0} → (ℕ → X) → ℕ → List X
first_values value zero = []
first_values value (suc n) = first_values value n ++ value n ∷ []

-- the rows of a table, which have so many bytes each
abbrev pub rows_of : {X : Type 0} → ℕ → (ℕ → List ℕ → X) → List ℕ → List X
rows_of width row table = first_values (λ k. row (width * k) table) (length table / width)

-- what the header says of the section headers
abbrev pub header_of : List ℕ → Header
header_of bytes = record { sections = number_at 8 40 bytes; count = number_at 2 60 bytes; names = number_at 2 62 bytes }

abbrev pub section_table : List ℕ → Header → List ℕ
section_table bytes header = part header.sections (64 * header.count) bytes

abbrev pub sections_of : List ℕ → List Section
sections_of bytes = rows_of 64 section_at (section_table bytes (header_of bytes))

abbrev pub section_names_of : List ℕ → List ℕ
section_names_of bytes = bytes_in bytes (sections_of bytes) (header_of bytes).names

abbrev pub is_symbol_kind : SectionKind → Bool
is_symbol_kind Symbols = true
is_symbol_kind kind = false

abbrev pub is_relocation_kind : SectionKind → Bool
is_relocation_kind Relocations = true
is_relocation_kind kind = false

abbrev pub is_symbol_table : Section → Bool
is_symbol_table section = is_symbol_kind section.kind

-- the symbol table: a file has one at most
abbrev pub symbol_table_of : List Section → Option Section
symbol_table_of sections = find is_symbol_table sections

abbrev pub symbols_in : List ℕ → List Section → List Symbol
symbols_in bytes sections = rows_of 24 symbol_at (bytes_of_some bytes (symbol_table_of sections))

abbrev pub names_of_table : List ℕ → List Section → Option Section → List ℕ
names_of_table bytes sections None = []
names_of_table bytes sections (Some table) = bytes_in bytes sections table.link

abbrev pub symbol_names_in : List ℕ → List Section → List ℕ
symbol_names_in bytes sections = names_of_table bytes sections (symbol_table_of sections)

-- SHF_ALLOC is 2: the section is loaded
abbrev pub is_loaded : Option Section → Bool
is_loaded None = false
is_loaded (Some section) = not (bit_and section.flags 2 == 0)

-- relocations of a section that is loaded; a kernel leaves the others out
abbrev pub is_applied : List Section → Section → Bool
is_applied sections table = is_relocation_kind table.kind && is_loaded (slice_get sections table.info)

abbrev pub relocations_by : List ℕ → List Section → Section → List Relocation
relocations_by bytes sections table =
    if is_applied sections table then rows_of 24 (relocation_at table.info) (bytes_of bytes table) else []

abbrev pub relocations_in : List ℕ → List Section → List Relocation
relocations_in bytes sections = flat_map (relocations_by bytes sections) sections
