-- Where the tables of a livepatch are.
use Rattle.std.specs.Prelude.{ℕ, ◌+◌, ◌-◌, ◌%◌, ◌^◌, ◌==◌, ◌&&◌, bit_and, bytes_eq, codes, filter, nat_lt, not, if◌then◌else◌, Bool, true, false, List, [], ◌∷◌, slice_get, Option, Some, None, Result, Ok, Err}
use Rattle.std.specs.List.{find, list_any}
use Rattle.klp_elf.specs.Looks.{is_object, pointer_at, symbol_name}
use Rattle.klp_elf.specs.declared.elf.Elf.{Elf}
use Rattle.klp_elf.specs.declared.fault.LookFault.{LookFault}
use Rattle.klp_elf.specs.declared.look.Place.{Place}
use Rattle.klp_elf.specs.declared.look.Pointer.{Pointer}
use Rattle.klp_elf.specs.declared.look.Pointer.TheVariants.{To}
use Rattle.klp_elf.specs.declared.row.Relocation.{Relocation}
use Rattle.klp_elf.specs.declared.row.RelocationKind.{RelocationKind}
use Rattle.klp_elf.specs.declared.row.RelocationKind.TheVariants.{Distance}
use Rattle.klp_elf.specs.declared.row.Section.{Section}
use Rattle.klp_elf.specs.declared.row.Symbol.{Symbol}
use Rattle.klp_elf.specs.declared.row.SymbolKind.{SymbolKind}
use Rattle.klp_elf.specs.declared.row.SymbolSection.{SymbolSection}
use Rattle.klp_elf.specs.declared.row.SymbolSection.TheVariants.{In}
use Rattle.klp_tables.specs.declared.fault.TableFault.{TableFault}
use Rattle.klp_tables.specs.declared.fault.TableFault.TheVariants.{NoPatch, SeveralPatches}
use Rattle.klp_tables.specs.declared.finding.Found.{Found}
use Rattle.klp_tables.specs.declared.finding.Found.TheVariants.{Nothing, One, Several}
use Rattle.klp_tables.specs.Rows.{moved}
use Rattle.klp_tables.specs.declared.layout.PatchLayout.{PatchLayout}

abbrev pub place_in_section : SymbolSection → ℕ → Option Place
place_in_section (In section) value = Some (record { section = section; offset = value })
place_in_section elsewhere value = None

abbrev pub place_of : Symbol → Option Place
place_of symbol = place_in_section symbol.section symbol.value

abbrev pub is_same_place : Place → Place → Bool
is_same_place one other = one.section == other.section && one.offset == other.offset

abbrev pub is_module_symbol : Elf → Symbol → Bool
is_module_symbol elf symbol = bytes_eq (symbol_name elf symbol) (codes "__this_module")

abbrev pub place_of_some : Option Symbol → Option Place
place_of_some None = None
place_of_some (Some symbol) = place_of symbol

-- where the module itself begins, a struct module
abbrev pub module_place : Elf → Option Place
module_place elf = place_of_some (find (is_module_symbol elf) elf.symbols.items)

abbrev pub is_pointer_to : Place → Result Pointer LookFault → Bool
is_pointer_to wanted (Ok (To place)) = is_same_place place wanted
is_pointer_to wanted other = false

abbrev pub points_to : Elf → Place → Place → Bool
points_to elf at wanted = is_pointer_to wanted (pointer_at elf at)

-- the word so many bytes behind a place points to the module itself
abbrev pub names_module : Elf → Place → ℕ → Option Place → Bool
names_module elf own by None = false
names_module elf own by (Some place) = points_to elf (moved place by) own

-- a variable of the size of a struct klp_patch, whose field mod points to the module itself
abbrev pub is_patch : Elf → PatchLayout → Place → Symbol → Bool
is_patch elf layout own symbol =
    is_object symbol.kind && (symbol.size == layout.size && names_module elf own layout.module (place_of symbol))

abbrev pub found_by : List Symbol → Found
found_by [] = Nothing
found_by (symbol ∷ []) = One symbol
found_by (symbol ∷ other ∷ more) = Several

-- the same after one more
abbrev pub and_found : Found → Symbol → Found
and_found Nothing symbol = One symbol
and_found found symbol = Several

abbrev pub patches_of : Elf → PatchLayout → Option Place → Found
patches_of elf layout None = Nothing
patches_of elf layout (Some own) = found_by (filter (is_patch elf layout own) elf.symbols.items)

abbrev pub place_or_none : Option Place → Result Place TableFault
place_or_none None = Err NoPatch
place_or_none (Some place) = Ok place

abbrev pub place_found : Found → Result Place TableFault
place_found Nothing = Err NoPatch
place_found (One symbol) = place_or_none (place_of symbol)
place_found Several = Err SeveralPatches

-- where the struct klp_patch of a file begins: the one variable that looks like it
abbrev pub patch_of : Elf → PatchLayout → Result Place TableFault
patch_of elf layout = place_found (patches_of elf layout (module_place elf))

-- SHF_EXECINSTR is 4
abbrev pub is_code : Option Section → Bool
is_code None = false
is_code (Some section) = not (bit_and section.flags 4 == 0)

-- a distance is counted from the end of its four bytes
abbrev pub lag : RelocationKind → ℕ
lag Distance = 4
lag kind = 0

-- how far a place is behind another, in 64 bits
abbrev pub distance : ℕ → ℕ → ℕ
distance to from = (to + 2 ^ 64 - from) % 2 ^ 64

abbrev pub is_behind : Place → ℕ → ℕ → SymbolSection → Bool
is_behind patch size to (In section) =
    section == patch.section && nat_lt 0 (distance to patch.offset) && nat_lt (distance to patch.offset) size
is_behind patch size to elsewhere = false

abbrev pub names_symbol_inside : Place → ℕ → Relocation → Option Symbol → Bool
names_symbol_inside patch size relocation None = false
names_symbol_inside patch size relocation (Some symbol) =
    is_behind patch size ((symbol.value + relocation.addend + lag relocation.kind) % 2 ^ 64) symbol.section

-- an instruction names a field of the struct, which has so many bytes, behind its first one
abbrev pub names_inside : Elf → Place → ℕ → Relocation → Bool
names_inside elf patch size relocation =
    is_code (slice_get elf.sections.items relocation.section)
    && names_symbol_inside patch size relocation (slice_get elf.symbols.items relocation.symbol)

-- code may change the struct before it is passed on
abbrev pub is_changed : Elf → PatchLayout → Place → Bool
is_changed elf layout patch = list_any (names_inside elf patch layout.size) elf.relocations.items
