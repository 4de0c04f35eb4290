-- The world that callbacks change: the installed patches with the values of their system states, and the shadow
-- variables.
use Rattle.std.specs.Prelude.{ℕ, Bool, not, ◌==◌, List, [], ◌∷◌, ◌++◌, length, map, find, reverse, Option, Some, None, is_some, option_map, option_and_then, if◌then◌else◌}
use Rattle.std.specs.declared.cmp.Ordering.{Ordering}
use Rattle.std.specs.Ordering.{nat_cmp, ordering_then}
use Rattle.std.specs.Int.{w64, from_le_bytes}
use Rattle.std.specs.FinMap as finite
use Rattle.klp_types.specs.declared.shadow.ShadowKey.{ShadowKey}

-- an installed patch, and the values of its system states by their ids
pub record Installed : Type 0 where
  pub patch : ℕ
  pub values : List (ℕ × ℕ)

-- the order of keys: by the parent object, then by the id
abbrev pub key_cmp : ShadowKey → ShadowKey → Ordering
key_cmp a b = ordering_then (nat_cmp a.obj b.obj) (nat_cmp a.id b.id)

-- the value of a shadow variable: its bytes
abbrev pub ShadowValue : Type 0
ShadowValue = List ℕ

-- the number whose eight bytes a value is, the lowest first; None for a value of another length
abbrev pub number_of : ShadowValue → Option ℕ
number_of value = if length value == 8 then Some (from_le_bytes w64 value) else None

-- the shadow variables: a finite map from their keys to their values
abbrev pub Shadow : Type 0
Shadow = finite.FinMap key_cmp ShadowValue

pub record World : Type 0 where
  -- the installed patches, oldest first
  pub installed : List Installed
  pub shadow : Shadow

-- the value of a shadow variable, if it exists
abbrev pub variable : World → ShadowKey → Option ShadowValue
variable world key = finite.get world.shadow key

-- the states of an installed patch, each an id and a value
abbrev pub states_of : ℕ → List Installed → List (ℕ × ℕ)
states_of patch [] = []
states_of patch (first ∷ newer) = if first.patch == patch then first.values else states_of patch newer

-- the value of the state with this id
abbrev pub value_among : ℕ → List (ℕ × ℕ) → Option ℕ
value_among id [] = None
value_among id (state ∷ states) = if state.0 == id then Some state.1 else value_among id states

-- the value of a system state of an installed patch
abbrev pub state_value : World → ℕ → ℕ → Option ℕ
state_value world patch id = value_among id (states_of patch world.installed)

-- the patches that were installed before this one; all of them if it isn't installed
abbrev pub installed_before : ℕ → List Installed → List Installed
installed_before patch [] = []
installed_before patch (first ∷ newer) = if first.patch == patch then [] else first ∷ installed_before patch newer

-- whether an installed patch names the state
abbrev pub names_state : ℕ → Installed → Bool
names_state id installed = is_some (value_among id installed.values)

-- the newest of these patches that names the state
abbrev pub newest_naming : ℕ → List Installed → Option ℕ
newest_naming id installed = option_map (λ (i : Installed). i.patch) (find (names_state id) (reverse installed))

-- the newest patch installed before this one that names the state
abbrev pub previous_patch : World → ℕ → ℕ → Option ℕ
previous_patch world patch id = newest_naming id (installed_before patch world.installed)

-- the value that the state has in that previous patch
abbrev pub previous_value : World → ℕ → ℕ → Option ℕ
previous_value world patch id = option_and_then (λ older. state_value world older id) (previous_patch world patch id)

-- the states with the one of this id set to the value, if it is there
abbrev pub set_among : ℕ → ℕ → List (ℕ × ℕ) → List (ℕ × ℕ)
set_among id value [] = []
set_among id value (state ∷ states) = if state.0 == id then (id, value) ∷ states else state ∷ set_among id value states

-- the installed patches with the states of one of them changed
abbrev pub change_states : ℕ → (List (ℕ × ℕ) → List (ℕ × ℕ)) → List Installed → List Installed
change_states patch change [] = []
change_states patch change (first ∷ newer) =
    if first.patch == patch then record first { values = change first.values } ∷ newer else first ∷ change_states patch change newer

-- the installed patches without this one and its states
abbrev pub taken_out : ℕ → List Installed → List Installed
taken_out patch [] = []
taken_out patch (first ∷ newer) = if first.patch == patch then newer else first ∷ taken_out patch newer

-- the world in which a variable has this value
abbrev pub with_variable : World → ShadowKey → ShadowValue → World
with_variable world key value = record world { shadow = finite.insert world.shadow key value }

-- the world without a variable
abbrev pub without_variable : World → ShadowKey → World
without_variable world key = record world { shadow = finite.remove world.shadow key }

-- the world without the variables of this id, whatever their parent objects
abbrev pub without_id : World → ℕ → World
without_id world id = record world { shadow = finite.retain_keys world.shadow (λ (key : ShadowKey). not (key.id == id)) }

-- the world in which a state of an installed patch has this value, if the patch names the state
abbrev pub with_value : World → ℕ → ℕ → ℕ → World
with_value world patch id value = record world { installed = change_states patch (set_among id value) world.installed }

-- the world with a patch added as the newest, its states at 0
abbrev pub with_patch : World → ℕ → List ℕ → World
with_patch world patch ids = record world { installed = world.installed ++ record { patch = patch; values = map (λ id. (id, 0)) ids } ∷ [] }

-- the world without an installed patch
abbrev pub without_patch : World → ℕ → World
without_patch world patch = record world { installed = taken_out patch world.installed }
