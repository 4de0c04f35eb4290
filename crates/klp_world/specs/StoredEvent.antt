-- Which records the changes of a world log: each row that they change, as it was.
use Rattle.std.specs.Prelude.{ℕ, suc, ◌++◌, ◌==◌, List, [], ◌∷◌, map, filter, reverse, Option, Some, None, if◌then◌else◌, option_map}
use Rattle.std.specs.FinMap as finite
use Rattle.klp_types.specs.declared.shadow.ShadowKey.{ShadowKey}
use Rattle.klp_types.specs.declared.record.Record.{Record}
use Rattle.klp_types.specs.declared.record.Record.TheVariants.{ShadowVariable, NoShadowVariable, StateValue, StateRow, InstalledPatch}
use Rattle.klp_types.specs.declared.edit.Edit.{Edit}
use Rattle.klp_types.specs.declared.edit.Edit.TheVariants.{Alloc, Free, FreeAll, SetData, TakePrev}
use Rattle.klp_types.specs.Records.{RecordList}
use Rattle.klp_types.specs.World.{Installed}
use Rattle.klp_types.specs.World.{World, ShadowValue, variable, state_value, states_of, previous_value}
use Rattle.klp_types.specs.Script.{Script, edited, edits_made}

-- the log with these records appended
abbrev pub noting : RecordList → List Record → RecordList
noting log rows = record log { logged = log.logged ++ rows }

-- the records of adding a variable: none if it exists
abbrev pub row_if_added : ShadowKey → Option ShadowValue → List Record
row_if_added key (Some there) = []
row_if_added key None = NoShadowVariable key ∷ []

abbrev pub rows_of_alloc : World → ShadowKey → List Record
rows_of_alloc world key = row_if_added key (variable world key)

-- the records of removing a variable: none if it doesn't exist
abbrev pub row_if_removed : ShadowKey → Option ShadowValue → List Record
row_if_removed key None = []
row_if_removed key (Some was) = ShadowVariable key was ∷ []

abbrev pub rows_of_free : World → ShadowKey → List Record
rows_of_free world key = row_if_removed key (variable world key)

-- the records of removing all variables of an id, in the order of their keys
abbrev pub variable_row : ShadowKey × ShadowValue → Record
variable_row v = ShadowVariable v.0 v.1

abbrev pub variable_rows : ℕ → List (ShadowKey × ShadowValue) → List Record
variable_rows id variables = map variable_row (filter (λ (v : ShadowKey × ShadowValue). v.0.id == id) variables)

abbrev pub rows_of_free_all : World → ℕ → List Record
rows_of_free_all world id = variable_rows id (finite.entries world.shadow)

-- the records of setting a state: none if the value stays the same or the patch doesn't name the state
abbrev pub row_if_set : ℕ → ℕ → ℕ → Option ℕ → List Record
row_if_set patch id value None = []
row_if_set patch id value (Some was) = if was == value then [] else StateValue patch id was ∷ []

abbrev pub rows_of_set : World → ℕ → ℕ → ℕ → List Record
rows_of_set world patch id value = row_if_set patch id value (state_value world patch id)

-- the records of adding a patch as the newest, with its states
abbrev pub rows_of_add : ℕ → List ℕ → List Record
rows_of_add patch ids = InstalledPatch patch None ∷ map (λ id. StateRow patch id None) ids

-- the index of an installed patch, counted from the oldest
abbrev pub place_of : ℕ → List Installed → Option ℕ
place_of patch [] = None
place_of patch (first ∷ newer) = if first.patch == patch then Some 0 else option_map suc (place_of patch newer)

abbrev pub state_row : ℕ → ℕ × ℕ → Record
state_row patch state = StateRow patch state.0 (Some state.1)

-- the records of removing a patch with its states: the states first, from the last to the first, then the patch
abbrev pub rows_if_dropped : ℕ → List (ℕ × ℕ) → Option ℕ → List Record
rows_if_dropped patch states None = []
rows_if_dropped patch states (Some place) = map (state_row patch) (reverse states) ++ InstalledPatch patch (Some place) ∷ []

abbrev pub rows_of_drop : World → ℕ → List Record
rows_of_drop world patch = rows_if_dropped patch (states_of patch world.installed) (place_of patch world.installed)

-- the records of taking over a value, if there is one
abbrev pub rows_of_take : World → ℕ → ℕ → Option ℕ → List Record
rows_of_take world patch id None = []
rows_of_take world patch id (Some value) = rows_of_set world patch id value

-- the records of one edit of a script, for the patch whose callback runs
abbrev pub rows_of_edit : ℕ → World → Edit → List Record
rows_of_edit patch world (Alloc key value) = rows_of_alloc world key
rows_of_edit patch world (Free key) = rows_of_free world key
rows_of_edit patch world (FreeAll id) = rows_of_free_all world id
rows_of_edit patch world (SetData id value) = rows_of_set world patch id value
rows_of_edit patch world (TakePrev id) = rows_of_take world patch id (previous_value world patch id)

-- the records of edits, made one after another
abbrev pub rows_of_edits : ℕ → World → List Edit → List Record
rows_of_edits patch world [] = []
rows_of_edits patch world (edit ∷ edits) = rows_of_edit patch world edit ++ rows_of_edits patch (edited patch world edit) edits

-- the records of a script, for the patch whose callback it is
abbrev pub rows_of_script : ℕ → World → Script → List Record
rows_of_script patch world script = rows_of_edits patch world (edits_made script)
