-- What stands at a place of a file.
use Rattle.std.specs.Prelude.{ℕ, ◌+◌, ◌%◌, ◌^◌, ◌==◌, ◌&&◌, bytes_eq, nat_le, nat_lt, not, if◌then◌else◌, Bool, true, false, List, [], ◌∷◌, length, take, drop, filter, position, slice_get, Option, Some, None, Result, Ok, Err}
use Rattle.klp_elf.specs.Numbers.{number_at}
use Rattle.klp_elf.specs.Parts.{bytes_in, has_bytes, is_zero, text_at}
use Rattle.klp_elf.specs.declared.elf.Elf.{Elf}
use Rattle.klp_elf.specs.declared.fault.LookFault.{LookFault}
use Rattle.klp_elf.specs.declared.fault.LookFault.TheVariants.{Outside as PlaceOutside, NoEnd, Several as SeveralThere, NoAddress, Number}
use Rattle.klp_elf.specs.declared.look.Place.{Place}
use Rattle.klp_elf.specs.declared.look.Pointer.{Pointer}
use Rattle.klp_elf.specs.declared.look.Pointer.TheVariants.{Null, To, Outside}
use Rattle.klp_elf.specs.declared.look.Relocated.{Relocated}
use Rattle.klp_elf.specs.declared.look.Relocated.TheVariants.{Never, By, Several}
use Rattle.klp_elf.specs.declared.row.Section.{Section}
use Rattle.klp_elf.specs.declared.row.Symbol.{Symbol}
use Rattle.klp_elf.specs.declared.row.SymbolKind.{SymbolKind}
use Rattle.klp_elf.specs.declared.row.SymbolKind.TheVariants.{Object, Function}
use Rattle.klp_elf.specs.declared.row.SymbolSection.{SymbolSection}
use Rattle.klp_elf.specs.declared.row.SymbolSection.TheVariants.{In}
use Rattle.klp_elf.specs.declared.row.Relocation.{Relocation}
use Rattle.klp_elf.specs.declared.row.RelocationKind.{RelocationKind}
use Rattle.klp_elf.specs.declared.row.RelocationKind.TheVariants.{Address}

-- the bytes of the place's section, from the place on
abbrev pub bytes_at : Elf → Place → List ℕ
bytes_at elf place = drop place.offset (bytes_in elf.bytes.now elf.sections.items place.section)

abbrev pub is_room : ℕ → ℕ → Option Section → Bool
is_room width offset None = false
is_room width offset (Some section) = not (has_bytes section.kind) && nat_le (offset + width) section.size

-- so many bytes at a place are in a section that has none in the file: all are 0 once the module is loaded
abbrev pub is_blank : ℕ → Elf → Place → Bool
is_blank width elf place = is_room width place.offset (slice_get elf.sections.items place.section)

-- the number of so many bytes at a place
abbrev pub number_of : ℕ → Elf → Place → Result ℕ LookFault
number_of width elf place =
    if is_blank width elf place then Ok 0
    else if nat_lt (length (bytes_at elf place)) width then Err (PlaceOutside place) else Ok (number_at width 0 (bytes_at elf place))

abbrev pub string_until : Place → List ℕ → Option ℕ → Result (List ℕ) LookFault
string_until place bytes None = Err (NoEnd place)
string_until place bytes (Some end) = Ok (take end bytes)

-- the string at a place, up to the first 0 in its section
abbrev pub string_at : Elf → Place → Result (List ℕ) LookFault
string_at elf place = string_until place (bytes_at elf place) (position is_zero (bytes_at elf place))

abbrev pub is_at : Place → Relocation → Bool
is_at place relocation = relocation.section == place.section && relocation.offset == place.offset

abbrev pub relocated_by : List Relocation → Relocated
relocated_by [] = Never
relocated_by (relocation ∷ []) = By relocation
relocated_by (relocation ∷ other ∷ more) = Several

-- the same after one more
abbrev pub and_by : Relocated → Relocation → Relocated
and_by Never relocation = By relocation
and_by found relocation = Several

abbrev pub relocated_at : Elf → Place → Relocated
relocated_at elf place = relocated_by (filter (is_at place) elf.relocations.items)

-- a symbol's address and what is added to it: a place, if the symbol is in a section of the file
abbrev pub place_in : Relocation → SymbolSection → ℕ → Pointer
place_in relocation (In section) value = To (record { section = section; offset = (value + relocation.addend) % 2 ^ 64 })
place_in relocation elsewhere value = Outside relocation.symbol

abbrev pub target_of : Relocation → Option Symbol → Pointer
target_of relocation None = Outside relocation.symbol
target_of relocation (Some symbol) = place_in relocation symbol.section symbol.value

abbrev pub is_address : RelocationKind → Bool
is_address Address = true
is_address kind = false

-- what is written over the eight bytes of a place that have a number
abbrev pub written : Elf → Place → ℕ → Relocated → Result Pointer LookFault
written elf place number Never = if number == 0 then Ok Null else Err (Number place)
written elf place number (By relocation) =
    if is_address relocation.kind then Ok (target_of relocation (slice_get elf.symbols.items relocation.symbol)) else Err (NoAddress place)
written elf place number Several = Err (SeveralThere place)

abbrev pub pointer_by : Elf → Place → Result ℕ LookFault → Result Pointer LookFault
pointer_by elf place (Ok number) = written elf place number (relocated_at elf place)
pointer_by elf place (Err fault) = Err fault

-- what the eight bytes at a place point to
abbrev pub pointer_at : Elf → Place → Result Pointer LookFault
pointer_at elf place = pointer_by elf place (number_of 8 elf place)

abbrev pub is_in : Place → SymbolSection → ℕ → Bool
is_in place (In section) value = section == place.section && value == place.offset
is_in place elsewhere value = false

abbrev pub is_function : SymbolKind → Bool
is_function Function = true
is_function kind = false

abbrev pub is_object : SymbolKind → Bool
is_object Object = true
is_object kind = false

-- a function begins at a place
abbrev pub begins_function : Place → Symbol → Bool
begins_function place symbol = is_function symbol.kind && is_in place symbol.section symbol.value

-- a variable begins at a place
abbrev pub begins_object : Place → Symbol → Bool
begins_object place symbol = is_object symbol.kind && is_in place symbol.section symbol.value

abbrev pub symbol_name : Elf → Symbol → List ℕ
symbol_name elf symbol = text_at elf.symbol_names.now symbol.name

abbrev pub section_name : Elf → Section → List ℕ
section_name elf section = text_at elf.section_names.now section.name

abbrev pub has_name : Elf → List ℕ → Section → Bool
has_name elf name section = bytes_eq (section_name elf section) name

-- the number of the first section of a name
abbrev pub section_named : Elf → List ℕ → Option ℕ
section_named elf name = position (has_name elf name) elf.sections.items
