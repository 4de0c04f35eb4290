-- Tables that fill a section or have a number of rows, as tools make them: no empty row ends them.
use Rattle.std.specs.Prelude.{ℕ, zero, suc, ◌+◌, ◌-◌, ◌*◌, ◌/◌, ◌%◌, ◌^◌, ◌==◌, nat_lt, if◌then◌else◌, List, [], ◌∷◌, ◌++◌, length, map, slice_get, Option, Some, None, Result, Ok, Err}
use Rattle.std.specs.List.{flat_map}
use Rattle.klp_elf.specs.Looks.{section_named}
use Rattle.klp_elf.specs.declared.elf.Elf.{Elf}
use Rattle.klp_elf.specs.declared.look.Place.{Place}
use Rattle.klp_elf.specs.declared.row.Section.{Section}
use Rattle.klp_tables.specs.Rows.{FunctionRow, ObjectFacts, function_meaning, function_name_to, moved, name_to, number_in, pointer_in, row_of}
use Rattle.klp_tables.specs.Steps.{◌>>=◌}
use Rattle.klp_tables.specs.declared.fault.TableFault.{TableFault}
use Rattle.klp_tables.specs.declared.fault.TableFault.TheVariants.{Ragged}
use Rattle.klp_tables.specs.declared.patch.Object.{Object}

-- the first rows of a table, so many, each by its number and the rows before it; or the first fault of one
abbrev pub rows_below : {R : Type 0} → (ℕ → List R → Result R TableFault) → ℕ → Result (List R) TableFault
rows_below row zero = Ok []
rows_below row (suc n) = rows_below row n >>= λ rows. row n rows >>= λ next. Ok (rows ++ next ∷ [])

-- a section's number fits into 16 bits, as a place has them
abbrev pub place_of_section : Option ℕ → Option Place
place_of_section None = None
place_of_section (Some number) = if nat_lt number (2 ^ 16) then Some (record { section = number; offset = 0 }) else None

-- where the first section of a name begins
abbrev pub section_place : Elf → List ℕ → Option Place
section_place elf name = place_of_section (section_named elf name)

abbrev pub size_of : Option Section → ℕ
size_of None = 0
size_of (Some section) = section.size

-- the bytes of a place's section
abbrev pub section_size : Elf → Place → ℕ
section_size elf table = size_of (slice_get elf.sections.items table.section)

abbrev pub at_most : ℕ → TableFault → ℕ → Result ℕ TableFault
at_most limit fault count = if nat_lt limit count then Err fault else Ok count

-- rows of so many bytes fill a section; this is their number
abbrev pub rows_in : Place → ℕ → ℕ → Result ℕ TableFault
rows_in table width size = if size % width == 0 then Ok (size / width) else Err (Ragged table width)

abbrev pub name_at : Elf → Place → Result (List ℕ) TableFault
name_at elf at = pointer_in elf at >>= name_to elf at

abbrev pub function_name_at : Elf → Place → Result (List ℕ) TableFault
function_name_at elf at = pointer_in elf at >>= function_name_to elf at

-- a function by where the pointer to its old name, the one to its new version, and its position are
abbrev pub function_by : Elf → Place → Place → Place → Result FunctionRow TableFault
function_by elf old new position =
    name_at elf old >>= λ old_name. function_name_at elf new >>= λ new_name. number_in 8 elf position >>= λ number.
    Ok (record { old_name = old_name; position = number; new_name = new_name })

-- an object with the functions that a patch changes in it
pub record TargetFacts : Type 0 where
  pub row : ObjectFacts
  pub functions : List FunctionRow

abbrev pub target_meaning : Object → TargetFacts
target_meaning object = record { row = row_of object; functions = map function_meaning object.functions.items }
