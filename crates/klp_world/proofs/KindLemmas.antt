-- What changes of the world note are rows of the world.
use Rattle.std.proofs.Common.{◌≡◌, ℕ, ◌==◌, true, false, List, [], ◌∷◌, map, filter, reverse, Option, Some, None, cond, refl}
use Rattle.std.specs.List.{All}
use Rattle.std.specs.FinMap as finite
use Rattle.std.proofs.lemmas.List.Elements.{All-nil, All-cons, All-append}
use Rattle.klp_types.specs.declared.shadow.ShadowKey.{ShadowKey}
use Rattle.klp_types.specs.declared.record.Record.{Record}
use Rattle.klp_types.specs.declared.record.Record.TheVariants.{ShadowVariable, NoShadowVariable, StateValue, StateRow, InstalledPatch}
use Rattle.klp_types.specs.declared.edit.Edit.{Edit}
use Rattle.klp_types.specs.declared.edit.Edit.TheVariants.{Alloc, Free, FreeAll, SetData, TakePrev}
use Rattle.klp_types.specs.World.{World, variable, state_value, states_of, previous_value, ShadowValue}
use Rattle.klp_types.specs.Script.{Script, edited, edits_made}
use Rattle.klp_world.specs.StoredEvent.{row_if_added, row_if_removed, variable_row, row_if_set, state_row, place_of, rows_of_free_all, rows_of_add, rows_if_dropped, rows_of_drop, rows_of_take, rows_of_edit, rows_of_edits, rows_of_script}
use Rattle.klp_world.specs.Undo.{is_of_world}

-- a row of the world
abbrev OfWorld : Record → Type 0
OfWorld row = is_of_world row ≡ true

of_added : (key : ShadowKey) (was : Option ShadowValue) → All OfWorld (row_if_added key was)
of_added key None = All-cons OfWorld (NoShadowVariable key) [] refl (All-nil OfWorld)
of_added key (Some there) = All-nil OfWorld

of_removed : (key : ShadowKey) (was : Option ShadowValue) → All OfWorld (row_if_removed key was)
of_removed key None = All-nil OfWorld
of_removed key (Some was) = All-cons OfWorld (ShadowVariable key was) [] refl (All-nil OfWorld)

of_variables : (variables : List (ShadowKey × ShadowValue)) → All OfWorld (map variable_row variables)
of_variables [] = All-nil OfWorld
of_variables (one ∷ variables) = All-cons OfWorld (variable_row one) (map variable_row variables) refl (of_variables variables)

of_set : (patch id value : ℕ) (was : Option ℕ) → All OfWorld (row_if_set patch id value was)
of_set patch id value None = All-nil OfWorld
of_set patch id value (Some was) = elim (was == value) as (λ same. All OfWorld (cond same [] (StateValue patch id was ∷ []))) [
  | true ↦ All-nil OfWorld
  | false ↦ All-cons OfWorld (StateValue patch id was) [] refl (All-nil OfWorld)
]

of_taken : (world : World) (patch id : ℕ) (value : Option ℕ) → All OfWorld (rows_of_take world patch id value)
of_taken world patch id None = All-nil OfWorld
of_taken world patch id (Some value) = of_set patch id value (state_value world patch id)

of_edit : (patch : ℕ) (world : World) (edit : Edit) → All OfWorld (rows_of_edit patch world edit)
of_edit patch world (Alloc key value) = of_added key (variable world key)
of_edit patch world (Free key) = of_removed key (variable world key)
of_edit patch world (FreeAll id) = of_variables (filter (λ (v : ShadowKey × ShadowValue). v.0.id == id) (finite.entries world.shadow))
of_edit patch world (SetData id value) = of_set patch id value (state_value world patch id)
of_edit patch world (TakePrev id) = of_taken world patch id (previous_value world patch id)

of_edits : (patch : ℕ) (world : World) (edits : List Edit) → All OfWorld (rows_of_edits patch world edits)
of_edits patch world [] = All-nil OfWorld
of_edits patch world (edit ∷ edits) =
    All-append OfWorld (rows_of_edit patch world edit) (rows_of_edits patch (edited patch world edit) edits) (of_edit patch world edit) (of_edits patch (edited patch world edit) edits)

-- a script's rows are of the world
pub of_script : (patch : ℕ) (world : World) (script : Script) → All OfWorld (rows_of_script patch world script)
of_script patch world script = of_edits patch world (edits_made script)

-- so are those of the single changes

pub of_free_all : (world : World) (id : ℕ) → All OfWorld (rows_of_free_all world id)
of_free_all world id = of_variables (filter (λ (v : ShadowKey × ShadowValue). v.0.id == id) (finite.entries world.shadow))

of_fresh : (patch : ℕ) (ids : List ℕ) → All OfWorld (map (λ id. StateRow patch id None) ids)
of_fresh patch [] = All-nil OfWorld
of_fresh patch (id ∷ ids) = All-cons OfWorld (StateRow patch id None) (map (λ id. StateRow patch id None) ids) refl (of_fresh patch ids)

pub of_add : (patch : ℕ) (ids : List ℕ) → All OfWorld (rows_of_add patch ids)
of_add patch ids = All-cons OfWorld (InstalledPatch patch None) (map (λ id. StateRow patch id None) ids) refl (of_fresh patch ids)

of_states : (patch : ℕ) (states : List (ℕ × ℕ)) → All OfWorld (map (state_row patch) states)
of_states patch [] = All-nil OfWorld
of_states patch (state ∷ states) = All-cons OfWorld (state_row patch state) (map (state_row patch) states) refl (of_states patch states)

of_dropped : (patch : ℕ) (states : List (ℕ × ℕ)) (place : Option ℕ) → All OfWorld (rows_if_dropped patch states place)
of_dropped patch states None = All-nil OfWorld
of_dropped patch states (Some place) =
    All-append OfWorld (map (state_row patch) (reverse states)) (InstalledPatch patch (Some place) ∷ []) (of_states patch (reverse states))
    (All-cons OfWorld (InstalledPatch patch (Some place)) [] refl (All-nil OfWorld))

pub of_drop : (world : World) (patch : ℕ) → All OfWorld (rows_of_drop world patch)
of_drop world patch = of_dropped patch (states_of patch world.installed) (place_of patch world.installed)
