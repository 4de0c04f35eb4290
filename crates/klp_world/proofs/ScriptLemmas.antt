-- How many records scripts note, and that these give back the world.
use Rattle.std.proofs.Common.{◌≡◌, ℕ, ◌+◌, ◌-◌, ◌≤◌, Bool, true, false, cond, List, [], ◌∷◌, length, length-append, refl, ap, ◌∙◌, arith, Option, Some, None}
use Rattle.std.specs.Bool.{◌==◌}
use Rattle.std.specs.Option.{is_some}
use Rattle.std.specs.FinMap as finite
use Rattle.klp_types.specs.declared.edit.Edit.{Edit}
use Rattle.klp_types.specs.declared.record.Record.TheVariants.{StateValue}
use Rattle.klp_types.specs.declared.edit.Edit.TheVariants.{Alloc, Free, FreeAll, SetData, TakePrev}
use Rattle.klp_types.specs.World.{World, Shadow, variable, state_value, previous_value}
use Rattle.klp_types.specs.Script.{Script, is_success, alloc_count, allocated, value_taken, edited, edited_by, edits_made, effect}
use Rattle.klp_types.specs.declared.limits.TheConstants.{MAX_VARIABLES}
use Rattle.klp_world.specs.Undo.{undone}
use Rattle.klp_world.specs.StoredEvent.{rows_of_edit, rows_of_edits, rows_of_take, row_if_set, row_if_added, row_if_removed, rows_of_script}
use Rattle.klp_types.proofs.KeyLemmas.{key_total}
use Rattle.klp_types.proofs.ScriptLemmas.{taken_leaves, edit_room, made_allocs}
use Rattle.klp_world.proofs.ShadowLemmas.{some_there}
use Rattle.klp_world.proofs.UndoLemmas.{count_parted, undone-append, undone_alloc, undone_free, undone_free_all, undone_set}

set_few : (patch id value : ℕ) (o : Option ℕ) → length (row_if_set patch id value o) ≤ 1
set_few patch id value None = omega arith
set_few patch id value (Some was) = elim (was == value) as (λ b. length (cond b [] (StateValue patch id was ∷ [])) ≤ 1) [ true ↦ omega arith | false ↦ omega arith ]

take_few : (world : World) (patch id : ℕ) (o : Option ℕ) → length (rows_of_take world patch id o) ≤ 1
take_few world patch id None = omega arith
take_few world patch id (Some value) = set_few patch id value (state_value world patch id)

-- an edit notes and leaves no more than it is and adds
edit_few : (patch : ℕ) (world : World) (edit : Edit) (edits : List Edit)
    → length (rows_of_edit patch world edit) + finite.len (edited patch world edit).shadow + alloc_count edits ≤ finite.len world.shadow + 1 + alloc_count (edit ∷ edits)
edit_few patch world (Alloc key value) edits =
    let more : alloc_count (Alloc key value ∷ edits) ≡ 1 + alloc_count edits = refl in
    elim (variable world key) as (λ o. length (row_if_added key o) + finite.len (allocated world key value o).shadow + alloc_count edits ≤ finite.len world.shadow + 1 + alloc_count (Alloc key value ∷ edits)) [
      | Some there ↦ omega arith
      | None ↦ elim (is_some (variable world key)) as (λ b. finite.len (finite.insert world.shadow key value) ≡ cond b (finite.len world.shadow) (finite.len world.shadow + 1)
          → 1 + finite.len (finite.insert world.shadow key value) + alloc_count edits ≤ finite.len world.shadow + 1 + alloc_count (Alloc key value ∷ edits)) [ true ↦ λ e. omega arith | false ↦ λ e. omega arith ] (finite.len-insert key_total world.shadow key value)
    ]
edit_few patch world (Free key) edits =
    let there = some_there world.shadow key in
    elim (variable world key) as (λ o. (is_some o ≡ true → 1 ≤ finite.len world.shadow) → finite.len (finite.remove world.shadow key) ≡ cond (is_some o) (finite.len world.shadow - 1) (finite.len world.shadow)
    → length (row_if_removed key o) + finite.len (finite.remove world.shadow key) + alloc_count edits ≤ finite.len world.shadow + 1 + alloc_count edits) [
      | Some was ↦ λ some e. let one = some refl in omega arith
      | None ↦ λ some e. omega arith
    ] there (finite.len-remove key_total world.shadow key)
edit_few patch world (FreeAll id) edits = let parted = count_parted world.shadow id in omega arith
edit_few patch world (SetData id value) edits = let few = set_few patch id value (state_value world patch id) in omega arith
edit_few patch world (TakePrev id) edits =
    let few = take_few world patch id (previous_value world patch id) in
    let same = ap (λ (s : Shadow). finite.len s) (taken_leaves world patch id (previous_value world patch id)) in
    omega arith

pub few_records : (patch : ℕ) (world : World) (edits : List Edit)
    → length (rows_of_edits patch world edits) + finite.len (edited_by patch world edits).shadow ≤ finite.len world.shadow + length edits + alloc_count edits
few_records patch world [] = omega arith
few_records patch world (edit ∷ edits) =
    let first = edit_few patch world edit edits in
    let others = few_records patch (edited patch world edit) edits in
    let both = length-append (rows_of_edit patch world edit) (rows_of_edits patch (edited patch world edit) edits) in
    omega arith

undone_take : (patch : ℕ) (world : World) (id : ℕ) (o : Option ℕ) → undone (value_taken world patch id o) (rows_of_take world patch id o) ≡ world
undone_take patch world id None = refl
undone_take patch world id (Some value) = undone_set world patch id value

undone_edit : (patch : ℕ) (world : World) (edit : Edit) → finite.len world.shadow ≤ MAX_VARIABLES → undone (edited patch world edit) (rows_of_edit patch world edit) ≡ world
undone_edit patch world (Alloc key value) few = undone_alloc world key value
undone_edit patch world (Free key) few = undone_free world key few
undone_edit patch world (FreeAll id) few = undone_free_all world id few
undone_edit patch world (SetData id value) few = undone_set world patch id value
undone_edit patch world (TakePrev id) few = undone_take patch world id (previous_value world patch id)

pub undone_edits : (patch : ℕ) (world : World) (edits : List Edit) → finite.len world.shadow + alloc_count edits ≤ MAX_VARIABLES
    → undone (edited_by patch world edits) (rows_of_edits patch world edits) ≡ world
undone_edits patch world [] few = refl
undone_edits patch world (edit ∷ edits) few =
    let room = edit_room patch world edit edits in
    let after = edited patch world edit in
    undone-append (edited_by patch after edits) (rows_of_edit patch world edit) (rows_of_edits patch after edits)
    ∙ ap (λ w. undone w (rows_of_edit patch world edit)) (undone_edits patch after edits (omega arith))
    ∙ undone_edit patch world edit (omega arith)

pub undone_script : (patch : ℕ) (world : World) (script : Script) → finite.len world.shadow + alloc_count script.edits ≤ MAX_VARIABLES
    → undone (effect patch world script) (rows_of_script patch world script) ≡ world
undone_script patch world script few =
    let made = made_allocs script in undone_edits patch world (edits_made script) (omega arith)

fewer_made : (b : Bool) (edits : List Edit) → length (cond b edits []) ≤ length edits
fewer_made true edits = omega arith
fewer_made false edits = omega arith

pub few_script_records : (patch : ℕ) (world : World) (script : Script)
    → length (rows_of_script patch world script) + finite.len (effect patch world script).shadow ≤ finite.len world.shadow + length script.edits + alloc_count script.edits
few_script_records patch world script =
    let made = fewer_made (is_success script.status) script.edits in
    let allocs = made_allocs script in
    let few = few_records patch world (edits_made script) in
    omega arith
