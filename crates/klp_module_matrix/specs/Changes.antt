-- Which functions two patches change.
use Rattle.std.specs.Prelude.{ℕ, ◌==◌, ◌&&◌, bytes_eq, max, not, Bool, true, false, List, filter, map, Option, Some, None, option_map}
use Rattle.std.specs.List.{flat_map, list_any}
use Rattle.klp_tables.specs.declared.patch.Function.{Function}
use Rattle.klp_tables.specs.declared.patch.Object.{Object}
use Rattle.klp_module_matrix.specs.declared.functions.Changed.{Changed}

-- a function that a patch changes: its object, which has no name if it is the kernel's image, its name and its position
pub record Change : Type 0 where
  pub object : Option (List ℕ)
  pub name : List ℕ
  pub position : ℕ

abbrev pub meaning : Changed → Change
meaning changed = record { object = option_map (λ n. n.now) changed.object; name = changed.name.now; position = changed.position }

abbrev pub changed_in : Option (List ℕ) → Function → Change
changed_in object function = record { object = object; name = function.old_name.now; position = function.position }

abbrev pub changes_in : Object → List Change
changes_in object = map (changed_in (option_map (λ n. n.now) object.row.name)) object.functions.items

-- all functions that a patch changes, in the order of its tables
abbrev pub changed_by : List Object → List Change
changed_by objects = flat_map changes_in objects

abbrev pub is_same_object : Option (List ℕ) → Option (List ℕ) → Bool
is_same_object None None = true
is_same_object (Some one) (Some other) = bytes_eq one other
is_same_object one other = false

-- the positions 0 and 1 name the same symbol, where there is one alone
abbrev pub symbol_of : ℕ → ℕ
symbol_of position = max position 1

abbrev pub is_same_change : Change → Change → Bool
is_same_change one other = is_same_object one.object other.object && bytes_eq one.name other.name && symbol_of one.position == symbol_of other.position

-- two patches change the same function
abbrev pub is_alike : Changed → Changed → Bool
is_alike one other = is_same_change (meaning one) (meaning other)

abbrev pub is_changed_too : List Changed → Changed → Bool
is_changed_too changed function = list_any (is_alike function) changed

abbrev pub is_lost : List Changed → Changed → Bool
is_lost newer function = not (is_changed_too newer function)

-- functions that only the older patch changes
abbrev pub lost_of : List Changed → List Changed → List Changed
lost_of older newer = filter (is_lost newer) older

-- functions that both change
abbrev pub shared_of : List Changed → List Changed → List Changed
shared_of older newer = filter (is_changed_too newer) older
