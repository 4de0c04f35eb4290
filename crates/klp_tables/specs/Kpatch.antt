-- The tables of kpatch-build: sections whose rows the module's init turns into the kernel's structs (kpatch-patch.h,
-- livepatch-patch-hook.c and kpatch.lds.S of kpatch 0.9).
use Rattle.std.specs.Prelude.{ℕ, ◌/◌, ◌%◌, ◌==◌, ◌||◌, bytes_eq, codes, nat_lt, if◌then◌else◌, Bool, List, [], ◌∷◌, ◌++◌, length, map, filter, Option, Some, None, Result, Ok, Err}
use Rattle.std.specs.List.{fold, list_any}
use Rattle.klp_elf.specs.declared.elf.Elf.{Elf}
use Rattle.klp_elf.specs.declared.look.Place.{Place}
use Rattle.klp_tables.specs.Counted.{TargetFacts, at_most, function_by, function_name_at, name_at, rows_below, rows_in, section_place, section_size}
use Rattle.klp_tables.specs.Rows.{FunctionRow, function_meaning, moved, row_place}
use Rattle.klp_tables.specs.Steps.{◌>>=◌}
use Rattle.klp_tables.specs.declared.fault.TableFault.{TableFault}
use Rattle.klp_tables.specs.declared.fault.TableFault.TheVariants.{ExtraCallback, Ragged, TooManyCallbacks, TooManyFunctions, TooManyObjects}
use Rattle.klp_tables.specs.declared.kpatch.CallbackSections.{CallbackSections}
use Rattle.klp_tables.specs.declared.kpatch.KpatchRow.{KpatchRow}
use Rattle.klp_tables.specs.declared.kpatch.KpatchTables.{KpatchTables}
use Rattle.klp_tables.specs.declared.limits.TheConstants.{MAX_FUNCTIONS, MAX_OBJECTS}
use Rattle.klp_tables.specs.declared.patch.Callbacks.{Callbacks}

-- a function, and the name of its object
pub record KpatchFacts : Type 0 where
  pub object : List ℕ
  pub function : FunctionRow

abbrev pub kpatch_meaning : KpatchRow → KpatchFacts
kpatch_meaning row = record { object = row.object.now; function = function_meaning row.function }

-- a function by where its object's name is pointed to, its old name and its new version, and where its position is
abbrev pub kpatch_function_by : Elf → Place → Place → Place → Place → Result KpatchFacts TableFault
kpatch_function_by elf object old new position =
    name_at elf object >>= λ name. function_by elf old new position >>= λ function. Ok (record { object = name; function = function })

-- struct kpatch_patch_func has 56 bytes: new_addr is at 0, sympos at 32, name at 40, objname at 48
abbrev pub kpatch_function_at : Elf → Place → Result KpatchFacts TableFault
kpatch_function_at elf place = kpatch_function_by elf (moved place 48) (moved place 40) place (moved place 32)

abbrev pub kpatch_function_row : Elf → Place → ℕ → List KpatchFacts → Result KpatchFacts TableFault
kpatch_function_row elf table k before = kpatch_function_at elf (row_place table 56 k)

abbrev pub function_count : Elf → Place → Result ℕ TableFault
function_count elf table = rows_in table 56 (section_size elf table) >>= at_most MAX_FUNCTIONS TooManyFunctions

-- the rows of .kpatch.funcs
abbrev pub kpatch_functions : Elf → Place → Result (List KpatchFacts) TableFault
kpatch_functions elf table = function_count elf table >>= rows_below (kpatch_function_row elf table)

-- the name of a callback's object, by where the function and the name are pointed to
abbrev pub kpatch_callback_by : Elf → Place → Place → Result (List ℕ) TableFault
kpatch_callback_by elf function object = function_name_at elf function >>= λ callback. name_at elf object

-- a callback has 16 bytes: the function is at 0, objname at 8
abbrev pub kpatch_callback_at : Elf → Place → Result (List ℕ) TableFault
kpatch_callback_at elf place = kpatch_callback_by elf place (moved place 8)

abbrev pub has_name : List (List ℕ) → List ℕ → Bool
has_name names name = list_any (bytes_eq name) names

-- init refuses a second callback of a kind for an object
abbrev pub unless_there : Place → List (List ℕ) → List ℕ → Result (List ℕ) TableFault
unless_there place names name = if has_name names name then Err (ExtraCallback place) else Ok name

abbrev pub callback_behind : Elf → Place → List (List ℕ) → Result (List ℕ) TableFault
callback_behind elf place names = kpatch_callback_at elf place >>= unless_there place names

abbrev pub kpatch_callback_row : Elf → Place → ℕ → List (List ℕ) → Result (List ℕ) TableFault
kpatch_callback_row elf table k names = callback_behind elf (row_place table 16 k) names

-- eight bytes of zeros may stand behind callbacks, so that no kernel leaves an empty section out
abbrev pub callbacks_in : Place → ℕ → Result ℕ TableFault
callbacks_in table size = if size % 16 == 0 || size % 16 == 8 then Ok (size / 16) else Err (Ragged table 16)

abbrev pub callback_count : Elf → Place → Result ℕ TableFault
callback_count elf table = callbacks_in table (section_size elf table) >>= at_most MAX_OBJECTS TooManyCallbacks

-- the objects that have a callback of a kind, by the section of this kind
abbrev pub kpatch_callbacks : Elf → Option Place → Result (List (List ℕ)) TableFault
kpatch_callbacks elf None = Ok []
kpatch_callbacks elf (Some table) = callback_count elf table >>= rows_below (kpatch_callback_row elf table)

-- all rows of a file
pub record KpatchFile : Type 0 where
  pub functions : List KpatchFacts
  pub pre_patch : List (List ℕ)
  pub post_patch : List (List ℕ)
  pub pre_unpatch : List (List ℕ)
  pub post_unpatch : List (List ℕ)

abbrev pub file_meaning : KpatchTables → KpatchFile
file_meaning tables = record {
  functions = map kpatch_meaning tables.functions.items;
  pre_patch = map (λ n. n.now) tables.pre_patch.items;
  post_patch = map (λ n. n.now) tables.post_patch.items;
  pre_unpatch = map (λ n. n.now) tables.pre_unpatch.items;
  post_unpatch = map (λ n. n.now) tables.post_unpatch.items;
}

abbrev pub Names : Type 0
Names = Result (List (List ℕ)) TableFault

-- the rows of each section, or the first fault
abbrev pub file_by : Result (List KpatchFacts) TableFault → Names → Names → Names → Names → Result KpatchFile TableFault
file_by functions pre post preun postun =
    functions >>= λ rows. pre >>= λ pres. post >>= λ posts. preun >>= λ preuns. postun >>= λ postuns.
    Ok (record { functions = rows; pre_patch = pres; post_patch = posts; pre_unpatch = preuns; post_unpatch = postuns })

-- where the callbacks of each kind begin
abbrev pub callback_sections : Elf → CallbackSections
callback_sections elf = record {
  pre_patch = section_place elf (codes ".kpatch.callbacks.pre_patch");
  post_patch = section_place elf (codes ".kpatch.callbacks.post_patch");
  pre_unpatch = section_place elf (codes ".kpatch.callbacks.pre_unpatch");
  post_unpatch = section_place elf (codes ".kpatch.callbacks.post_unpatch");
}

abbrev pub kpatch_file : Elf → Place → CallbackSections → Result KpatchFile TableFault
kpatch_file elf table sections =
    file_by (kpatch_functions elf table) (kpatch_callbacks elf sections.pre_patch) (kpatch_callbacks elf sections.post_patch)
    (kpatch_callbacks elf sections.pre_unpatch) (kpatch_callbacks elf sections.post_unpatch)

-- a name is there once
abbrev pub with_name : List (List ℕ) → List ℕ → List (List ℕ)
with_name names name = if has_name names name then names else names ++ name ∷ []

abbrev pub with_object : List (List ℕ) → KpatchFacts → List (List ℕ)
with_object names row = with_name names row.object

-- the objects that the rows name, each once, in their order: functions before callbacks
abbrev pub kpatch_names : KpatchFile → List (List ℕ)
kpatch_names file =
    fold with_name (fold with_name (fold with_name (fold with_name (fold with_object [] file.functions)
    file.pre_patch) file.post_patch) file.pre_unpatch) file.post_unpatch

abbrev pub is_of : List ℕ → KpatchFacts → Bool
is_of name row = bytes_eq row.object name

abbrev pub function_of : KpatchFacts → FunctionRow
function_of row = row.function

-- the functions of an object, in the order of the rows
abbrev pub functions_for : List KpatchFacts → List ℕ → List FunctionRow
functions_for rows name = map function_of (filter (is_of name) rows)

-- the kernel's image is called vmlinux
abbrev pub name_of_object : List ℕ → Option (List ℕ)
name_of_object name = if bytes_eq name (codes "vmlinux") then None else Some name

abbrev pub callbacks_for : KpatchFile → List ℕ → Callbacks
callbacks_for file name = record {
  pre_patch = has_name file.pre_patch name;
  post_patch = has_name file.post_patch name;
  pre_unpatch = has_name file.pre_unpatch name;
  post_unpatch = has_name file.post_unpatch name;
}

abbrev pub kpatch_target : KpatchFile → List ℕ → TargetFacts
kpatch_target file name = record {
  row = record { name = name_of_object name; functions = None; callbacks = callbacks_for file name };
  functions = functions_for file.functions name;
}

abbrev pub few_targets : List TargetFacts → Result (List TargetFacts) TableFault
few_targets targets = if nat_lt MAX_OBJECTS (length targets) then Err TooManyObjects else Ok targets

-- the objects of a patch, by the rows that name them
abbrev pub kpatch_targets : Elf → Place → Result (List TargetFacts) TableFault
kpatch_targets elf table = kpatch_file elf table (callback_sections elf) >>= λ file. few_targets (map (kpatch_target file) (kpatch_names file))
