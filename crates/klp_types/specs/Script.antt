-- Scripts, what they do to a world, and which shadow variables they touch.
use Rattle.std.specs.Prelude.{◌≡◌, ℕ, ◌+◌, ℤ, pos, Bool, true, false, ◌==◌, ◌&&◌, ◌||◌, IsTrue, List, [], ◌∷◌, Option, Some, None, unwrap_or, if◌then◌else◌}
use Rattle.std.specs.List.{list_any}
use Rattle.klp_types.specs.declared.shadow.ShadowKey.{ShadowKey}
use Rattle.klp_types.specs.declared.edit.Edit.{Edit}
use Rattle.klp_types.specs.declared.edit.Edit.TheVariants.{Alloc, Free, FreeAll, SetData, TakePrev}
use Rattle.klp_types.specs.World.{World, ShadowValue, variable, previous_value, with_variable, without_variable, without_id, with_value}

-- whether two keys are the same
abbrev pub is_key : ShadowKey → ShadowKey → Bool
is_key own key = own.obj == key.obj && own.id == key.id

-- edits in order, and the status that the callback returns
pub record Script : Type 0 where
  pub edits : List Edit
  pub status : ℤ

abbrev pub is_alloc : Edit → Bool
is_alloc (Alloc key value) = true
is_alloc (Free key) = false
is_alloc (FreeAll id) = false
is_alloc (SetData id value) = false
is_alloc (TakePrev id) = false

-- how many edits add a variable
abbrev pub alloc_count : List Edit → ℕ
alloc_count [] = 0
alloc_count (edit ∷ edits) = if is_alloc edit then 1 + alloc_count edits else alloc_count edits

-- a variable that doesn't exist is added; one that exists keeps its value
abbrev pub allocated : World → ShadowKey → ShadowValue → Option ShadowValue → World
allocated world key value (Some there) = world
allocated world key value None = with_variable world key value

-- a state takes over a value, if there is one
abbrev pub value_taken : World → ℕ → ℕ → Option ℕ → World
value_taken world patch id None = world
value_taken world patch id (Some value) = with_value world patch id value

-- the world after an edit, for the patch whose callback runs
abbrev pub edited : ℕ → World → Edit → World
edited patch world (Alloc key value) = allocated world key value (variable world key)
edited patch world (Free key) = without_variable world key
edited patch world (FreeAll id) = without_id world id
edited patch world (SetData id value) = with_value world patch id value
edited patch world (TakePrev id) = value_taken world patch id (previous_value world patch id)

-- one variable after an edit: an edit changes each key independently
abbrev pub edited_at : ShadowKey → Option ShadowValue → Edit → Option ShadowValue
edited_at key was (Alloc own value) = if is_key own key then Some (unwrap_or was value) else was
edited_at key was (Free own) = if is_key own key then None else was
edited_at key was (FreeAll id) = if id == key.id then None else was
edited_at key was (SetData id value) = was
edited_at key was (TakePrev id) = was

-- one variable after edits, made one after another
abbrev pub made_of : ShadowKey → Option ShadowValue → List Edit → Option ShadowValue
made_of key was [] = was
made_of key was (edit ∷ edits) = made_of key (edited_at key was edit) edits

-- the world after edits, made one after another
abbrev pub edited_by : ℕ → World → List Edit → World
edited_by patch world [] = world
edited_by patch world (edit ∷ edits) = edited_by patch (edited patch world edit) edits

-- a status of 0 is success
abbrev pub is_success : ℤ → Bool
is_success (pos n) = n == 0
is_success other = false

-- the edits that a script makes: none if its status isn't 0
abbrev pub edits_made : Script → List Edit
edits_made script = if is_success script.status then script.edits else []

-- the world after a script, for the patch whose callback it is
abbrev pub effect : ℕ → World → Script → World
effect patch world script = edited_by patch world (edits_made script)

-- whether an edit names the variable
abbrev pub edit_touches : ShadowKey → Edit → Bool
edit_touches key (Alloc own value) = is_key own key
edit_touches key (Free own) = is_key own key
edit_touches key (FreeAll id) = id == key.id
edit_touches key (SetData id value) = false
edit_touches key (TakePrev id) = false

-- whether a script touches the variable
abbrev pub touches : Script → ShadowKey → Bool
touches script key = list_any (edit_touches key) (edits_made script)

-- the script b, run after the script a, restores every variable that one of them touches to its value in this world
abbrev pub Undoes : ℕ → Script → Script → World → Type 0
Undoes patch b a world = (key : ShadowKey) → IsTrue (touches a key || touches b key) → variable (effect patch (effect patch world a) b) key ≡ variable world key
