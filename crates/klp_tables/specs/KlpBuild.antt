-- The tables of klp-build: a section whose rows the module's init turns into the kernel's structs
-- (include/linux/livepatch_external.h and scripts/livepatch/init.c of Linux).
use Rattle.std.specs.Prelude.{ℕ, ◌-◌, ◌==◌, if◌then◌else◌, List, [], length, Option, Some, None, Result, Ok, Err}
use Rattle.std.specs.List.{flat_map}
use Rattle.klp_elf.specs.declared.elf.Elf.{Elf}
use Rattle.klp_elf.specs.declared.look.Place.{Place}
use Rattle.klp_tables.specs.Counted.{TargetFacts, at_most, function_by, rows_below, rows_in, section_size}
use Rattle.klp_tables.specs.Rows.{FunctionRow, ObjectFacts, moved, named_object, number_in, pointer_in, row_place}
use Rattle.klp_tables.specs.Steps.{◌>>=◌}
use Rattle.klp_tables.specs.declared.fault.TableFault.{TableFault}
use Rattle.klp_tables.specs.declared.fault.TableFault.TheVariants.{NoRows, TooManyFunctions, TooManyObjects}
use Rattle.klp_tables.specs.declared.klp_build.TheConstants.{EXTERNAL}
use Rattle.klp_tables.specs.declared.limits.TheConstants.{MAX_FUNCTIONS, MAX_OBJECTS}

-- struct klp_func_ext has 24 bytes: old_name is at 0, new_func at 8, sympos at 16
abbrev pub built_function_row : Elf → Place → ℕ → List FunctionRow → Result FunctionRow TableFault
built_function_row elf table k before =
    function_by elf (row_place table 24 k) (moved (row_place table 24 k) 8) (moved (row_place table 24 k) 16)

-- so many functions, to which the pointer at a place points
abbrev pub built_functions : Elf → Place → Option Place → ℕ → Result (List FunctionRow) TableFault
built_functions elf at None count = if count == 0 then Ok [] else Err (NoRows at)
built_functions elf at (Some table) count = rows_below (built_function_row elf table) count

-- struct klp_object_ext: name, funcs and callbacks are where a struct klp_object has them
abbrev pub built_object_at : Elf → Place → Result ObjectFacts TableFault
built_object_at elf place =
    pointer_in elf (moved place EXTERNAL.name) >>= λ name. pointer_in elf (moved place EXTERNAL.functions) >>= λ functions.
    named_object elf EXTERNAL place name functions

-- the number of functions at a place, if there is room for so many
abbrev pub counted_in : Elf → Place → ℕ → Result ℕ TableFault
counted_in elf at room = number_in 4 elf at >>= at_most room TooManyFunctions

-- nr_funcs is at 56. There is room for so many functions
abbrev pub built_target_at : Elf → Place → ℕ → Result TargetFacts TableFault
built_target_at elf place room =
    built_object_at elf place >>= λ row. counted_in elf (moved place 56) room >>= λ count.
    built_functions elf (moved place 8) row.functions count >>= λ functions. Ok (record { row = row; functions = functions })

abbrev pub functions_in_target : TargetFacts → List FunctionRow
functions_in_target target = target.functions

-- how many more functions a patch may have that has these objects
abbrev pub room_after : List TargetFacts → ℕ
room_after targets = MAX_FUNCTIONS - length (flat_map functions_in_target targets)

abbrev pub built_target_row : Elf → Place → ℕ → List TargetFacts → Result TargetFacts TableFault
built_target_row elf table k before = built_target_at elf (row_place table 64 k) (room_after before)

abbrev pub target_count : Elf → Place → Result ℕ TableFault
target_count elf table = rows_in table 64 (section_size elf table) >>= at_most MAX_OBJECTS TooManyObjects

-- the objects of a patch
abbrev pub built_targets : Elf → Place → Result (List TargetFacts) TableFault
built_targets elf table = target_count elf table >>= rows_below (built_target_row elf table)
