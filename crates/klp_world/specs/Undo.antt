-- Undo: a record, put back, restores one row of the world.
use Rattle.std.specs.Prelude.{◌≢◌, ℕ, Bool, true, false, ◌++◌, ◌==◌, nat_lt, List, [], ◌∷◌, length, insert, Option, Some, None, if◌then◌else◌}
use Rattle.std.specs.FinMap as finite
use Rattle.klp_types.specs.declared.shadow.ShadowKey.{ShadowKey}
use Rattle.klp_types.specs.declared.record.Record.{Record}
use Rattle.klp_types.specs.declared.record.Record.TheVariants.{ShadowVariable, NoShadowVariable, StateValue, StateRow, InstalledPatch}
use Rattle.klp_types.specs.World.{Installed}
use Rattle.klp_types.specs.World.{World, ShadowValue, states_of, with_variable, without_variable, with_value, change_states, taken_out}
use Rattle.klp_types.specs.Entries.{is_empty}
use Rattle.klp_types.specs.declared.limits.TheConstants.{MAX_VARIABLES, MAX_PATCHES, MAX_STATES}

-- the world without a variable (None), or with it set if there is room
abbrev pub put_variable : World → ShadowKey → Option ShadowValue → World
put_variable world key None = without_variable world key
put_variable world key (Some value) = if nat_lt (finite.len world.shadow) MAX_VARIABLES then with_variable world key value else world

-- the states without the one with this id
abbrev pub state_taken : ℕ → List (ℕ × ℕ) → List (ℕ × ℕ)
state_taken id [] = []
state_taken id (state ∷ states) = if state.0 == id then states else state ∷ state_taken id states

-- the states without the one with this id (None), or with it added as the last if there is room
abbrev pub put_state : ℕ → Option ℕ → List (ℕ × ℕ) → List (ℕ × ℕ)
put_state id None states = state_taken id states
put_state id (Some value) states = if nat_lt (length states) MAX_STATES then states ++ (id, value) ∷ [] else states

-- the installed patches without this one (None), but only once it has no states, since each of them is a row of its
-- own; or with it inserted at its old index, without states, if there is room
abbrev pub put_patch : ℕ → Option ℕ → List Installed → List Installed
put_patch patch None installed = if is_empty (states_of patch installed) then taken_out patch installed else installed
put_patch patch (Some place) installed =
    if nat_lt (length installed) MAX_PATCHES then insert installed place (record { patch = patch; values = [] }) else installed

-- whether the record is of a row of the world: a shadow variable, a state or an installed patch
abbrev pub is_of_world : Record → Bool
is_of_world (ShadowVariable key was) = true
is_of_world (NoShadowVariable key) = true
is_of_world (StateValue patch id was) = true
is_of_world (StateRow patch id was) = true
is_of_world (InstalledPatch patch place) = true
is_of_world other = false

-- the world with one row restored from the record; a record of another part of the state changes nothing
abbrev pub put_back : World → Record → World
put_back world (ShadowVariable key was) = put_variable world key (Some was)
put_back world (NoShadowVariable key) = put_variable world key None
put_back world (StateValue patch id was) = with_value world patch id was
put_back world (StateRow patch id was) = record world { installed = change_states patch (put_state id was) world.installed }
put_back world (InstalledPatch patch place) = record world { installed = put_patch patch place world.installed }
put_back world other = world

-- the world after all records of the list are put back, from the last to the first; the last is the newest
abbrev pub undone : World → List Record → World
undone world [] = world
undone world (row ∷ newer) = put_back (undone world newer) row

-- each of these records, put back in its turn on the world that the newer ones leave, changes it
abbrev pub HaveEffects : World → List Record → Type 0
HaveEffects world [] = Unit {0}
HaveEffects world (row ∷ newer) = (put_back (undone world newer) row ≢ undone world newer) × HaveEffects world newer
