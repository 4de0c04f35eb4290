-- What a catalog can have of livepatches, and the first reason why it can't have them.
use Rattle.std.specs.Prelude.{ℕ, ◌+◌, count_by, not, nat_lt, ◌==◌, bytes_eq, if◌then◌else◌, Bool, List, [], ◌∷◌, length, position, slice_get, Option, Some, None, is_some, option_and_then, option_map}
use Rattle.std.specs.List.{list_any}
use Rattle.klp_types.specs.declared.limits.TheConstants.{MAX_FUNCTIONS, MAX_PATCHES, MAX_SITES, MAX_STATES, MAX_TARGETS}
use Rattle.klp_words.specs.Words.{is_name, is_symbol_name}
use Rattle.klp_module_matrix.specs.Names.{object_name, name_of_row}
use Rattle.klp_tables.specs.declared.patch.Function.{Function}
use Rattle.klp_tables.specs.declared.patch.Object.{Object}
use Rattle.klp_tables.specs.declared.patch.State.{State}
use Rattle.klp_module_fit.specs.declared.NamedPatch.{NamedPatch}
use Rattle.klp_module_fit.specs.declared.fault.FitFault.{FitFault}
use Rattle.klp_module_fit.specs.declared.fault.FitFault.TheVariants.{TooManyPatches, PatchTwice, Patch}
use Rattle.klp_module_fit.specs.declared.fault.PatchFault.{PatchFault}
use Rattle.klp_module_fit.specs.declared.fault.PatchFault.TheVariants.{BadName, TooManyObjects, TooManyFunctions, TooManyStates, BadObject, ObjectTwice, BadFunction, FarPosition, StateTwice}

-- a reason if the test holds, else the next one
abbrev pub if_else : {R : Type 0} → Bool → R → Option R → Option R
if_else test reason other = if test then Some reason else other

-- the first of two reasons
abbrev pub or_else : {R : Type 0} → Option R → Option R → Option R
or_else None other = other
or_else (Some reason) other = Some reason

-- more than one of these is the same as this one
abbrev pub is_twice : {X : Type 0} → (X → X → Bool) → List X → X → Bool
is_twice is_same xs x = nat_lt 1 (count_by (is_same x) xs)

-- the number of the first one that is there more than once
abbrev pub first_twice : {X : Type 0} → (X → X → Bool) → List X → Option ℕ
first_twice is_same xs = position (is_twice is_same xs) xs

abbrev pub name_of : Object → List ℕ
name_of object = name_of_row object.row

abbrev pub is_same_object : Object → Object → Bool
is_same_object one other = bytes_eq (name_of one) (name_of other)

abbrev pub is_same_state : State → State → Bool
is_same_state one other = one.id == other.id

abbrev pub is_same_patch : NamedPatch → NamedPatch → Bool
is_same_patch one other = bytes_eq one.name.now other.name.now

abbrev pub has_bad_name : Object → Bool
has_bad_name object = not (is_name (name_of object))

abbrev pub is_bad_function : Function → Bool
is_bad_function function = not (is_symbol_name function.old_name.now)

abbrev pub has_far_position : Function → Bool
has_far_position function = nat_lt MAX_SITES function.position

-- how many functions these objects have together
abbrev pub function_count : List Object → ℕ
function_count [] = 0
function_count (object ∷ objects) = length object.functions.items + function_count objects

abbrev pub has_bad_function : Object → Bool
has_bad_function object = list_any is_bad_function object.functions.items

abbrev pub has_far_function : Object → Bool
has_far_function object = list_any has_far_position object.functions.items

-- a patch has too many of something
abbrev pub count_fault : List Object → List State → Option PatchFault
count_fault objects states =
    if_else (nat_lt MAX_TARGETS (length objects)) TooManyObjects
    (if_else (nat_lt MAX_FUNCTIONS (function_count objects)) TooManyFunctions
    (if_else (nat_lt MAX_STATES (length states)) TooManyStates None))

-- an object has a name that no object of a catalog can have, or is there twice
abbrev pub object_fault : List Object → Option PatchFault
object_fault objects =
    or_else (option_map (λ n. BadObject n) (position has_bad_name objects)) (option_map (λ n. ObjectTwice n) (first_twice is_same_object objects))

-- an object has a function with a name or a position that no symbol of a catalog can have
abbrev pub function_fault : List Object → Option PatchFault
function_fault objects =
    or_else (option_map (λ n. BadFunction n) (position has_bad_function objects)) (option_map (λ n. FarPosition n) (position has_far_function objects))

abbrev pub state_fault : List State → Option PatchFault
state_fault states = option_map (λ n. StateTwice n) (first_twice is_same_state states)

-- the first reason why a catalog can't have a patch
abbrev pub patch_fault : NamedPatch → Option PatchFault
patch_fault p =
    let objects = p.patch.now.objects.items in
    let states = p.patch.now.states.items in
    if_else (not (is_name p.name.now)) BadName
    (or_else (count_fault objects states) (or_else (object_fault objects) (or_else (function_fault objects) (state_fault states))))

abbrev pub is_unfit : NamedPatch → Bool
is_unfit p = is_some (patch_fault p)

abbrev pub fault_at : List NamedPatch → Option ℕ → Option FitFault
fault_at patches None = None
fault_at patches (Some number) = option_map (λ fault. Patch number fault) (option_and_then patch_fault (slice_get patches number))

-- the first patch that doesn't fit, with its fault
abbrev pub first_unfit : List NamedPatch → Option FitFault
first_unfit patches = fault_at patches (position is_unfit patches)

-- The first reason why a catalog can't have these patches: there are too many, one doesn't fit, or two have one name.
abbrev pub fit_fault : List NamedPatch → Option FitFault
fit_fault patches =
    if_else (nat_lt MAX_PATCHES (length patches)) TooManyPatches
    (or_else (first_unfit patches) (option_map (λ n. PatchTwice n) (first_twice is_same_patch patches)))
