-- The rows of a livepatch's tables, by what stands at their places.
use Rattle.std.specs.Prelude.{ℕ, ◌+◌, ◌*◌, ◌%◌, ◌^◌, ◌==◌, ◌&&◌, ◌≡◌, ◌<◌, ◌≤◌, not, if◌then◌else◌, Bool, true, false, List, [], ◌∷◌, length, map, position, slice_get, Option, Some, None, option_map, Result, Ok, Err}
use Rattle.std.specs.List.{All, find}
use Rattle.klp_elf.specs.Looks.{begins_function, begins_object, number_of, pointer_at, string_at, symbol_name}
use Rattle.klp_elf.specs.declared.elf.Elf.{Elf}
use Rattle.klp_elf.specs.declared.look.Place.{Place}
use Rattle.klp_elf.specs.declared.look.Pointer.{Pointer}
use Rattle.klp_elf.specs.declared.look.Pointer.TheVariants.{Null, To, Outside}
use Rattle.klp_elf.specs.declared.row.Symbol.{Symbol}
use Rattle.klp_tables.specs.Steps.{◌>>=◌, looked}
use Rattle.klp_tables.specs.declared.fault.TableFault.{TableFault}
use Rattle.klp_tables.specs.declared.fault.TableFault.TheVariants.{NoName, NoFunction, NoRows}
use Rattle.klp_tables.specs.declared.layout.CallbackPlaces.{CallbackPlaces}
use Rattle.klp_tables.specs.declared.layout.FunctionLayout.{FunctionLayout}
use Rattle.klp_tables.specs.declared.layout.Layout.{Layout}
use Rattle.klp_tables.specs.declared.layout.ObjectLayout.{ObjectLayout}
use Rattle.klp_tables.specs.declared.layout.StateLayout.{StateLayout}
use Rattle.klp_tables.specs.declared.patch.Callbacks.{Callbacks}
use Rattle.klp_tables.specs.declared.patch.Function.{Function}
use Rattle.klp_tables.specs.declared.patch.Object.{Object}
use Rattle.klp_tables.specs.declared.patch.ObjectRow.{ObjectRow}
use Rattle.klp_tables.specs.declared.patch.State.{State}

-- a place so many bytes further on: addresses have 64 bits
abbrev pub moved : Place → ℕ → Place
moved place by = record { section = place.section; offset = (place.offset + by) % 2 ^ 64 }

-- the place of the row of this number, where rows have so many bytes
abbrev pub row_place : Place → ℕ → ℕ → Place
row_place table width number = moved table (width * number)

-- the rows of a table up to the first empty one are these, and no others
abbrev pub IsTable : {R : Type 0} → (ℕ → Result (Option R) TableFault) → List R → Type 0
IsTable row rows = (k : ℕ) → k ≤ length rows → row k ≡ Ok (slice_get rows k)

-- the rows of a table begin with these
abbrev pub IsBegun : {R : Type 0} → (ℕ → Result (Option R) TableFault) → List R → Type 0
IsBegun row rows = (k : ℕ) → k < length rows → row k ≡ Ok (slice_get rows k)

abbrev pub pointer_in : Elf → Place → Result Pointer TableFault
pointer_in elf place = looked (pointer_at elf place)

abbrev pub number_in : ℕ → Elf → Place → Result ℕ TableFault
number_in width elf place = looked (number_of width elf place)

abbrev pub is_null : Pointer → Bool
is_null Null = true
is_null pointer = false

-- the name to which the pointer at a place points
abbrev pub name_to : Elf → Place → Pointer → Result (List ℕ) TableFault
name_to elf at (To place) = looked (string_at elf place)
name_to elf at pointer = Err (NoName at)

abbrev pub name_of_symbol : Elf → Place → Option Symbol → Result (List ℕ) TableFault
name_of_symbol elf at None = Err (NoFunction at)
name_of_symbol elf at (Some symbol) = Ok (symbol_name elf symbol)

-- the name of the function to which the pointer at a place points
abbrev pub function_name_to : Elf → Place → Pointer → Result (List ℕ) TableFault
function_name_to elf at (To place) = name_of_symbol elf at (find (begins_function place) elf.symbols.items)
function_name_to elf at pointer = Err (NoFunction at)

-- a row of a function: what it is called, its position, and what its new version is called
pub record FunctionRow : Type 0 where
  pub old_name : List ℕ
  pub position : ℕ
  pub new_name : List ℕ

abbrev pub function_meaning : Function → FunctionRow
function_meaning function = record { old_name = function.old_name.now; position = function.position; new_name = function.new_name.now }

abbrev pub named_function : Elf → FunctionLayout → Place → Pointer → Pointer → ℕ → Result FunctionRow TableFault
named_function elf layout place old new number =
    name_to elf (moved place layout.old_name) old >>= λ old_name.
    function_name_to elf (moved place layout.new_function) new >>= λ new_name.
    Ok (record { old_name = old_name; position = number; new_name = new_name })

abbrev pub some_row : {R : Type 0} → R → Result (Option R) TableFault
some_row row = Ok (Some row)

-- an empty row ends the table
abbrev pub function_unless_empty : Elf → FunctionLayout → Place → Pointer → Pointer → ℕ → Result (Option FunctionRow) TableFault
function_unless_empty elf layout place old new number =
    if is_null old && is_null new && number == 0 then Ok None else named_function elf layout place old new number >>= some_row

-- the row of a function: old_name, new_func and old_sympos have eight bytes each
abbrev pub function_at : Elf → FunctionLayout → Place → Result (Option FunctionRow) TableFault
function_at elf layout place =
    pointer_in elf (moved place layout.old_name) >>= λ old. pointer_in elf (moved place layout.new_function) >>= λ new.
    number_in 8 elf (moved place layout.position) >>= λ number. function_unless_empty elf layout place old new number

-- the row of an object
pub record ObjectFacts : Type 0 where
  pub name : Option (List ℕ)
  pub functions : Option Place
  pub callbacks : Callbacks

abbrev pub object_meaning : ObjectRow → ObjectFacts
object_meaning row = record { name = option_map (λ name. name.now) row.name; functions = row.functions; callbacks = row.callbacks }

-- an object without a name is the kernel's image
abbrev pub object_name_to : Elf → Place → Pointer → Result (Option (List ℕ)) TableFault
object_name_to elf at Null = Ok None
object_name_to elf at (To place) = looked (string_at elf place) >>= λ name. Ok (Some name)
object_name_to elf at (Outside symbol) = Err (NoName at)

abbrev pub rows_to : Place → Pointer → Result (Option Place) TableFault
rows_to at Null = Ok None
rows_to at (To place) = Ok (Some place)
rows_to at (Outside symbol) = Err (NoRows at)

abbrev pub is_set : Elf → Place → Result Bool TableFault
is_set elf place = pointer_in elf place >>= λ pointer. Ok (not (is_null pointer))

-- the four pointers to callbacks, in the order in which they run
abbrev pub callbacks_at : Elf → CallbackPlaces → Place → Result Callbacks TableFault
callbacks_at elf places place =
    is_set elf (moved place places.pre_patch) >>= λ pre. is_set elf (moved place places.post_patch) >>= λ post.
    is_set elf (moved place places.pre_unpatch) >>= λ preun. is_set elf (moved place places.post_unpatch) >>= λ postun.
    Ok (record { pre_patch = pre; post_patch = post; pre_unpatch = preun; post_unpatch = postun })

abbrev pub named_object : Elf → ObjectLayout → Place → Pointer → Pointer → Result ObjectFacts TableFault
named_object elf layout place name functions =
    object_name_to elf (moved place layout.name) name >>= λ named. rows_to (moved place layout.functions) functions >>= λ rows.
    callbacks_at elf layout.callbacks place >>= λ callbacks.
    Ok (record { name = named; functions = rows; callbacks = callbacks })

-- the row of a struct klp_object: name, funcs, and the four callbacks. An empty one ends the table
abbrev pub object_at : Elf → ObjectLayout → Place → Result (Option ObjectFacts) TableFault
object_at elf layout place =
    pointer_in elf (moved place layout.name) >>= λ name. pointer_in elf (moved place layout.functions) >>= λ functions.
    if is_null name && is_null functions then Ok None else named_object elf layout place name functions >>= some_row

-- the row of a state: id and version. The id 0 ends the table
abbrev pub state_at : Elf → StateLayout → Place → Result (Option State) TableFault
state_at elf layout place =
    number_in 8 elf (moved place layout.id) >>= λ number.
    if number == 0 then Ok None
    else number_in 4 elf (moved place layout.version) >>= λ version. Ok (Some (record { id = number; version = version }))

abbrev pub symbol_has_size : ℕ → Option Symbol → Bool
symbol_has_size size None = true
symbol_has_size size (Some symbol) = symbol.size == size

-- the variable that begins here, if there is one, has this size
abbrev pub has_size : Elf → Place → ℕ → Bool
has_size elf place size = symbol_has_size size (find (begins_object place) elf.symbols.items)

-- rows by their numbers
abbrev pub function_row : Elf → FunctionLayout → Place → ℕ → Result (Option FunctionRow) TableFault
function_row elf layout table k = function_at elf layout (row_place table layout.size k)

abbrev pub object_row : Elf → ObjectLayout → Place → ℕ → Result (Option ObjectFacts) TableFault
object_row elf layout table k = object_at elf layout (row_place table layout.size k)

abbrev pub state_row : Elf → StateLayout → Place → ℕ → Result (Option State) TableFault
state_row elf layout table k = state_at elf layout (row_place table layout.size k)

-- the functions of a table up to its empty row, whose variable has the size of all rows
pub record IsFunctionTable (elf : Elf) (layout : FunctionLayout) (table : Place) (functions : List Function) : Type 0 where
  pub rows : IsTable (function_row elf layout table) (map function_meaning functions)
  pub size : has_size elf table (layout.size * (length functions + 1)) ≡ true

-- the functions of an object; none where it points to no table
abbrev pub IsFunctions : Elf → FunctionLayout → Option Place → List Function → Type 0
IsFunctions elf layout None functions = functions ≡ []
IsFunctions elf layout (Some table) functions = IsFunctionTable elf layout table functions

abbrev pub has_functions : Elf → FunctionLayout → Object → Type 0
has_functions elf layout object = IsFunctions elf layout object.row.functions object.functions.items

abbrev pub row_of : Object → ObjectFacts
row_of object = object_meaning object.row

-- the objects of a table up to its empty row, each with its functions
pub record IsObjectTable (elf : Elf) (layout : Layout) (table : Place) (objects : List Object) : Type 0 where
  pub rows : IsTable (object_row elf layout.object table) (map row_of objects)
  pub functions : All (has_functions elf layout.function) objects
  pub size : has_size elf table (layout.object.size * (length objects + 1)) ≡ true

pub record IsStateTable (elf : Elf) (layout : StateLayout) (table : Place) (states : List State) : Type 0 where
  pub rows : IsTable (state_row elf layout table) states
  pub size : has_size elf table (layout.size * (length states + 1)) ≡ true
