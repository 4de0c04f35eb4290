-- Why the tables of a livepatch can't be read. Each fault tells something true of the file.
use Rattle.std.specs.Prelude.{ℕ, ◌+◌, ◌*◌, ◌-◌, ◌≡◌, ◌⊎◌, ◌≤◌, false, List, length, map, Option, Some, None, Result, Ok, Err}
use Rattle.std.specs.List.{All, flat_map}
use Rattle.klp_elf.specs.Looks.{pointer_at}
use Rattle.klp_elf.specs.declared.elf.Elf.{Elf}
use Rattle.klp_elf.specs.declared.fault.LookFault.{LookFault}
use Rattle.klp_elf.specs.declared.look.Place.{Place}
use Rattle.klp_elf.specs.declared.look.Pointer.{Pointer}
use Rattle.klp_elf.specs.declared.look.Pointer.TheVariants.{Null, To, Outside}
use Rattle.klp_tables.specs.Forms.{form_of}
use Rattle.klp_tables.specs.KlpBuild.{built_targets}
use Rattle.klp_tables.specs.Kpatch.{kpatch_targets}
use Rattle.klp_tables.specs.Patches.{replaces_of}
use Rattle.klp_tables.specs.Rows.{function_row, has_functions, has_size, moved, object_at, object_row, row_of, row_place, state_row}
use Rattle.klp_tables.specs.Rows.{IsBegun, IsTable, ObjectFacts}
use Rattle.klp_tables.specs.declared.fault.TableFault.{TableFault}
use Rattle.klp_tables.specs.declared.fault.TableFault.TheVariants.{Look, Layout as OtherSize, NoRows, TooManyFunctions, TooManyObjects, TooManyStates}
use Rattle.klp_tables.specs.declared.limits.TheConstants.{MAX_FUNCTIONS, MAX_OBJECTS, MAX_STATES}
use Rattle.klp_tables.specs.declared.finding.Form.{Form}
use Rattle.klp_tables.specs.declared.finding.Form.TheVariants.{Static, Kpatch, KlpBuild}
use Rattle.klp_tables.specs.declared.layout.FunctionLayout.{FunctionLayout}
use Rattle.klp_tables.specs.declared.layout.Layout.{Layout}
use Rattle.klp_tables.specs.declared.layout.StateLayout.{StateLayout}
use Rattle.klp_tables.specs.declared.patch.Function.{Function}
use Rattle.klp_tables.specs.declared.patch.Object.{Object}

-- the row behind some rows, of which there may be so many, fails so
abbrev pub FailsAtRow : {R : Type 0} → (ℕ → Result (Option R) TableFault) → ℕ → TableFault → Type 0
FailsAtRow {R = R} row limit fault = (rows : List R) × IsBegun row rows × (length rows ≤ limit) × (row (length rows) ≡ Err fault)

-- there are more rows than so many
abbrev pub HasMoreRows : {R : Type 0} → (ℕ → Result (Option R) TableFault) → ℕ → Type 0
HasMoreRows {R = R} row limit = (rows : List R) × IsBegun row rows × (length rows ≡ limit + 1)

-- the variable of a table hasn't the size of its rows and the empty one
abbrev pub HasOtherSize : {R : Type 0} → (ℕ → Result (Option R) TableFault) → Elf → Place → ℕ → TableFault → Type 0
HasOtherSize {R = R} row elf table width fault =
    (rows : List R) × IsTable row rows × (has_size elf table (width * (length rows + 1)) ≡ false)
    × (fault ≡ OtherSize table (width * (length rows + 1)))

-- a row fails, or there are too many, of which this is the fault
abbrev pub IsRowsFault : {R : Type 0} → (ℕ → Result (Option R) TableFault) → ℕ → TableFault → TableFault → Type 0
IsRowsFault row limit many fault = FailsAtRow row limit fault ⊎ ((fault ≡ many) × HasMoreRows row limit)

abbrev pub IsStateTableFault : Elf → StateLayout → Place → TableFault → Type 0
IsStateTableFault elf layout table fault =
    IsRowsFault (state_row elf layout table) MAX_STATES TooManyStates fault
    ⊎ HasOtherSize (state_row elf layout table) elf table layout.size fault

-- of functions, where there may be so many more
abbrev pub IsFunctionTableFault : Elf → FunctionLayout → Place → ℕ → TableFault → Type 0
IsFunctionTableFault elf layout table room fault =
    IsRowsFault (function_row elf layout table) room TooManyFunctions fault
    ⊎ HasOtherSize (function_row elf layout table) elf table layout.size fault

abbrev pub IsFunctionsFault : Elf → FunctionLayout → Option Place → ℕ → TableFault → Type 0
IsFunctionsFault elf layout None room fault = ⊥
IsFunctionsFault elf layout (Some table) room fault = IsFunctionTableFault elf layout table room fault

-- the row of an object fails, or its functions do
abbrev pub IsObjectFault : Elf → Layout → Place → ℕ → TableFault → Type 0
IsObjectFault elf layout place room fault =
    (object_at elf layout.object place ≡ Err fault)
    ⊎ ((facts : ObjectFacts) × (object_at elf layout.object place ≡ Ok (Some facts))
    × IsFunctionsFault elf layout.function facts.functions room fault)

abbrev pub functions_in : Object → List Function
functions_in object = object.functions.items

-- how many more functions a patch may have that has these objects
abbrev pub room_behind : List Object → ℕ
room_behind objects = MAX_FUNCTIONS - length (flat_map functions_in objects)

-- a table of objects begins with these, each with its functions
pub record AreObjectsBegun (elf : Elf) (layout : Layout) (table : Place) (objects : List Object) : Type 0 where
  pub rows : IsBegun (object_row elf layout.object table) (map row_of objects)
  pub functions : All (has_functions elf layout.function) objects

-- the object behind some objects fails so
abbrev pub FailsAtObject : Elf → Layout → Place → TableFault → Type 0
FailsAtObject elf layout table fault =
    (objects : List Object) × AreObjectsBegun elf layout table objects × (length objects ≤ MAX_OBJECTS)
    × IsObjectFault elf layout (row_place table layout.object.size (length objects)) (room_behind objects) fault

abbrev pub IsObjectTableFault : Elf → Layout → Place → TableFault → Type 0
IsObjectTableFault elf layout table fault =
    FailsAtObject elf layout table fault
    ⊎ (((fault ≡ TooManyObjects) × HasMoreRows (object_row elf layout.object table) MAX_OBJECTS)
    ⊎ HasOtherSize (object_row elf layout.object table) elf table layout.object.size fault)

-- what a pointer that is wanted to point to a table points to
abbrev pub table_by : Place → Result Pointer LookFault → Result Place TableFault
table_by at (Ok (To table)) = Ok table
table_by at (Ok pointer) = Err (NoRows at)
table_by at (Err fault) = Err (Look fault)

abbrev pub IsStatesFault : Elf → StateLayout → Place → Result Pointer LookFault → TableFault → Type 0
IsStatesFault elf layout at (Ok (To table)) fault = IsStateTableFault elf layout table fault
IsStatesFault elf layout at (Ok Null) fault = ⊥
IsStatesFault elf layout at (Ok (Outside symbol)) fault = fault ≡ NoRows at
IsStatesFault elf layout at (Err look) fault = fault ≡ Look look

-- one of the parts of a struct klp_patch fails so
abbrev pub IsStaticFault : Elf → Layout → Place → TableFault → Type 0
IsStaticFault elf layout place fault =
    (replaces_of elf layout.patch place ≡ Err fault)
    ⊎ ((table_by (moved place layout.patch.objects) (pointer_at elf (moved place layout.patch.objects)) ≡ Err fault)
    ⊎ (IsStatesFault elf layout.state (moved place layout.patch.states) (pointer_at elf (moved place layout.patch.states)) fault
    ⊎ ((table : Place) × (pointer_at elf (moved place layout.patch.objects) ≡ Ok (To table)) × IsObjectTableFault elf layout table fault)))

-- the tables fail so, in the form in which they are
abbrev pub IsFormFault : Elf → Layout → Form → TableFault → Type 0
IsFormFault elf layout (Static place) fault = IsStaticFault elf layout place fault
IsFormFault elf layout (Kpatch table) fault = kpatch_targets elf table ≡ Err fault
IsFormFault elf layout (KlpBuild table) fault = built_targets elf table ≡ Err fault

-- the file has no patch, or more than one, or the one that it has fails so
abbrev pub IsPatchFault : Elf → Layout → TableFault → Type 0
IsPatchFault elf layout fault =
    (form_of elf layout.patch ≡ Err fault) ⊎ ((form : Form) × (form_of elf layout.patch ≡ Ok form) × IsFormFault elf layout form fault)
