-- What a cut leaves of a livepatch's tables.
use Rattle.std.specs.Prelude.{ℕ, ◌+◌, ◌==◌, ◌++◌, ◌&&◌, not, ◌||◌, bytes_eq, drop, take, if◌then◌else◌, Bool, true, false, List, [], ◌∷◌, length, option_map}
use Rattle.std.specs.List.{flat_map, list_any}
use Rattle.klp_tables.specs.declared.patch.Callbacks.{Callbacks}
use Rattle.klp_tables.specs.declared.patch.Function.{Function}
use Rattle.klp_tables.specs.declared.patch.Object.{Object}
use Rattle.klp_tables.specs.declared.patch.ObjectRow.{ObjectRow}
use Rattle.klp_tables.specs.declared.patch.Replaces.{Replaces}
use Rattle.klp_tables.specs.declared.patch.Replaces.TheVariants.{No, Yes, Unknown}
use Rattle.klp_tables.specs.declared.patch.State.{State}
use Rattle.klp_module_matrix.specs.Changes.{Change, changed_by, changed_in, is_same_change, meaning}
use Rattle.klp_module_matrix.specs.Names.{name_of_row}
use Rattle.klp_module_matrix.specs.declared.functions.Changed.{Changed}
use Rattle.klp_module_fit.specs.Fit.{function_count}
use Rattle.klp_module_fit.specs.declared.NamedPatch.{NamedPatch}

abbrev pub is_same_bool : Bool → Bool → Bool
is_same_bool true other = other
is_same_bool false other = not other

abbrev pub is_same_replacing : Replaces → Replaces → Bool
is_same_replacing Yes Yes = true
is_same_replacing No No = true
is_same_replacing Unknown Unknown = true
is_same_replacing one other = false

abbrev pub is_same_state : State → State → Bool
is_same_state one other = one.id == other.id && one.version == other.version

abbrev pub are_same_states : List State → List State → Bool
are_same_states [] [] = true
are_same_states (one ∷ states) (other ∷ others) = is_same_state one other && are_same_states states others
are_same_states states others = false

abbrev pub is_same_function : Function → Function → Bool
is_same_function one other =
    bytes_eq one.old_name.now other.old_name.now && one.position == other.position && bytes_eq one.new_name.now other.new_name.now

abbrev pub are_same_callbacks : Callbacks → Callbacks → Bool
are_same_callbacks one other =
    is_same_bool one.pre_patch other.pre_patch && is_same_bool one.post_patch other.post_patch
    && is_same_bool one.pre_unpatch other.pre_unpatch && is_same_bool one.post_unpatch other.post_unpatch

-- an object has one of the four callbacks
abbrev pub has_callbacks : Callbacks → Bool
has_callbacks c = c.pre_patch || c.post_patch || c.pre_unpatch || c.post_unpatch

-- one of these changes is of the function of an object, too
abbrev pub is_shared : List Changed → ObjectRow → Function → Bool
is_shared others row function =
    list_any (λ (other : Changed). is_same_change (changed_in (option_map (λ n. n.now) row.name) function) (meaning other)) others

-- The first functions of an object are some of the second ones, in their order. One that others change too isn't left out.
abbrev pub are_among : List Changed → ObjectRow → List Function → List Function → Bool
are_among others row [] [] = true
are_among others row (one ∷ kept) [] = false
are_among others row [] (other ∷ all) = not (is_shared others row other) && are_among others row [] all
are_among others row (one ∷ kept) (other ∷ all) =
    if is_same_function one other then are_among others row kept all
    else not (is_shared others row other) && are_among others row (one ∷ kept) all

-- the object with its callbacks, and some of its functions
abbrev pub is_part_of : List Changed → Object → Object → Bool
is_part_of others part whole =
    bytes_eq (name_of_row part.row) (name_of_row whole.row) && are_same_callbacks part.row.callbacks whole.row.callbacks
    && are_among others whole.row part.functions.items whole.functions.items

-- an object has callbacks, or a function that others change too
abbrev pub must_stay : List Changed → Object → Bool
must_stay others object = has_callbacks object.row.callbacks || list_any (is_shared others object.row) object.functions.items

-- The first objects are parts of some of the second ones, in their order. None that must stay is left out.
abbrev pub are_parts_of : List Changed → List Object → List Object → Bool
are_parts_of others [] [] = true
are_parts_of others (part ∷ parts) [] = false
are_parts_of others [] (whole ∷ wholes) = not (must_stay others whole) && are_parts_of others [] wholes
are_parts_of others (part ∷ parts) (whole ∷ wholes) =
    if is_part_of others part whole then are_parts_of others parts wholes
    else not (must_stay others whole) && are_parts_of others (part ∷ parts) wholes

-- these objects, and what is left out, are as many as those
abbrev pub counts_left_out : NamedPatch → List Object → Bool
counts_left_out cut wholes =
    let parts = cut.patch.now.objects.items in
    length parts + cut.left_out.objects == length wholes && function_count parts + cut.left_out.functions == function_count wholes

-- The first patch is the second one, without some of its functions, and without some of its objects that have no callbacks. None
-- of the functions is left out that others change too. It says how many are left out.
abbrev pub is_cut_of : List Changed → NamedPatch → NamedPatch → Bool
is_cut_of others cut whole =
    bytes_eq cut.name.now whole.name.now && is_same_replacing cut.patch.now.replaces whole.patch.now.replaces
    && are_same_states cut.patch.now.states.items whole.patch.now.states.items
    && are_parts_of others cut.patch.now.objects.items whole.patch.now.objects.items
    && counts_left_out cut whole.patch.now.objects.items

-- the functions that some patches change, in the order of their tables
abbrev pub changed_by_all : List NamedPatch → List Change
changed_by_all patches = flat_map (λ (named : NamedPatch). changed_by named.patch.now.objects.items) patches

-- those that all patches but the one of this number change
abbrev pub changed_by_others : List NamedPatch → ℕ → List Change
changed_by_others patches number = changed_by_all (take number patches) ++ changed_by_all (drop (number + 1) patches)
