-- What is wrong with a file: the first fault, if there is one.
use Rattle.std.specs.Prelude.{ℕ, ◌*◌, ◌%◌, ◌==◌, ◌&&◌, ◌||◌, not, nat_eq, nat_le, nat_lt, if◌then◌else◌, Bool, false, List, [], ◌∷◌, length, position, slice_index, Option, Some, None, option_map}
use Rattle.std.specs.List.{find, starts_with}
use Rattle.std.specs.Option.{option_or}
use Rattle.klp_elf.specs.Numbers.{number_at}
use Rattle.klp_elf.specs.Parts.{bytes_in, has_bytes, is_closed, is_inside}
use Rattle.klp_elf.specs.Tables.{header_of, is_applied, relocations_in, sections_of, symbol_names_in, symbol_table_of, symbols_in}
use Rattle.klp_elf.specs.declared.elf.TheConstants.{MAX_SYMBOLS, MAX_RELOCATIONS}
use Rattle.klp_elf.specs.declared.row.Section.{Section}
use Rattle.klp_elf.specs.declared.row.Symbol.{Symbol}
use Rattle.klp_elf.specs.declared.row.SymbolSection.{SymbolSection}
use Rattle.klp_elf.specs.declared.row.SymbolSection.TheVariants.{In}
use Rattle.klp_elf.specs.declared.row.Relocation.{Relocation}
use Rattle.klp_elf.specs.declared.fault.ElfFault.{ElfFault}
use Rattle.klp_elf.specs.declared.fault.ElfFault.TheVariants.{NotElf, NotLittle64, NotX86, NotRelocatable, HeaderSize, HeadersOutside, SectionOutside, NoSectionNames, SectionName, NoSymbols, SymbolSize, TooManySymbols, NoSymbolNames, SymbolName, SymbolSection as NoSuchSection, RelocationSize, TooManyRelocations, RelocationSymbol}

-- ELFCLASS64 is 2, ELFDATA2LSB 1, EM_X86_64 62, ET_REL 1
abbrev pub header_fault : List ℕ → Option ElfFault
header_fault bytes =
    if nat_lt (length bytes) 64 || not (starts_with nat_eq bytes (127 ∷ 69 ∷ 76 ∷ 70 ∷ [])) then Some NotElf
    else if not (slice_index bytes 4 == 2) || not (slice_index bytes 5 == 1) then Some NotLittle64
    else if not (number_at 2 18 bytes == 62) then Some NotX86
    else if not (number_at 2 16 bytes == 1) then Some NotRelocatable
    else if not (number_at 2 58 bytes == 64) then Some HeaderSize
    else if not (is_inside (header_of bytes).sections (64 * (header_of bytes).count) bytes) then Some HeadersOutside
    else None

abbrev pub is_outside : List ℕ → Section → Bool
is_outside bytes section = has_bytes section.kind && not (is_inside section.offset section.size bytes)

-- a name begins behind the names
abbrev pub is_nameless : List ℕ → ℕ → Bool
is_nameless names name = nat_le (length names) name

abbrev pub has_no_name : List ℕ → Section → Bool
has_no_name names section = is_nameless names section.name

abbrev pub names_fault : List ℕ → List Section → Option ElfFault
names_fault names sections =
    if not (is_closed names) then Some NoSectionNames
    else option_map SectionName (position (has_no_name names) sections)

-- of sections whose names are in the section with this number
abbrev pub sections_fault_in : List ℕ → List Section → ℕ → Option ElfFault
sections_fault_in bytes sections names =
    option_or (option_map SectionOutside (position (is_outside bytes) sections)) (names_fault (bytes_in bytes sections names) sections)

abbrev pub sections_fault : List ℕ → Option ElfFault
sections_fault bytes = sections_fault_in bytes (sections_of bytes) (header_of bytes).names

-- rows of a table have 24 bytes each
abbrev pub is_ragged : Section → Bool
is_ragged table = not (table.entry_size == 24) || not (table.size % 24 == 0)

abbrev pub is_misplaced : ℕ → SymbolSection → Bool
is_misplaced count (In number) = nat_le count number
is_misplaced count section = false

abbrev pub names_nothing : List ℕ → Symbol → Bool
names_nothing names symbol = is_nameless names symbol.name

abbrev pub is_homeless : ℕ → Symbol → Bool
is_homeless count symbol = is_misplaced count symbol.section

abbrev pub rows_fault : List ℕ → ℕ → List Symbol → Option ElfFault
rows_fault names count symbols =
    option_or (option_map SymbolName (position (names_nothing names) symbols))
    (option_map NoSuchSection (position (is_homeless count) symbols))

abbrev pub symbol_table_fault : List ℕ → Option Section → Option ElfFault
symbol_table_fault names None = Some NoSymbols
symbol_table_fault names (Some table) =
    if is_ragged table then Some SymbolSize
    else if nat_lt (24 * MAX_SYMBOLS) table.size then Some TooManySymbols
    else if not (is_closed names) then Some NoSymbolNames
    else None

abbrev pub symbols_fault : List ℕ → List Section → Option ElfFault
symbols_fault bytes sections =
    option_or (symbol_table_fault (symbol_names_in bytes sections) (symbol_table_of sections))
    (rows_fault (symbol_names_in bytes sections) (length sections) (symbols_in bytes sections))

abbrev pub is_ragged_table : List Section → Section → Bool
is_ragged_table sections table = is_applied sections table && is_ragged table

abbrev pub names_no_symbol : ℕ → Relocation → Bool
names_no_symbol count relocation = nat_le count relocation.symbol

abbrev pub symbol_fault_of : Relocation → ElfFault
symbol_fault_of relocation = RelocationSymbol relocation.section relocation.offset

abbrev pub many_fault : List Relocation → Option ElfFault
many_fault relocations = if nat_lt MAX_RELOCATIONS (length relocations) then Some TooManyRelocations else None

-- of relocations, where there are so many symbols
abbrev pub relocations_fault : List ℕ → List Section → ℕ → Option ElfFault
relocations_fault bytes sections count =
    option_or (option_map RelocationSize (position (is_ragged_table sections) sections))
    (option_or (many_fault (relocations_in bytes sections))
    (option_map symbol_fault_of (find (names_no_symbol count) (relocations_in bytes sections))))

-- the first fault of a file, if it has one
abbrev pub fault_of : List ℕ → Option ElfFault
fault_of bytes =
    option_or (header_fault bytes)
    (option_or (sections_fault bytes)
    (option_or (symbols_fault bytes (sections_of bytes))
    (relocations_fault bytes (sections_of bytes) (length (symbols_in bytes (sections_of bytes))))))
