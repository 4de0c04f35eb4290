-- Each record that a change notes tells a row that is another one afterwards.
use Rattle.std.proofs.Common.{◌≡◌, ℕ, zero, suc, ◌+◌, ◌≤◌, true, false, cond, ltb, List, [], ◌∷◌, ◌++◌, length, length-append, map, reverse, refl, sym, ap, subst, ◌∙◌, arith, Option, Some, None}
use Rattle.std.specs.Prelude.{◌≢◌}
use Rattle.std.specs.Bool.{◌==◌}
use Rattle.std.specs.List.{insert, list_any}
use Rattle.std.proofs.lemmas.Bool.{lt-ltb, eq-eqb}
use Rattle.std.proofs.lemmas.List.{map-append, reverse-append, length-map}
use Rattle.std.specs.Ordering.{eq_by_cmp}
use Rattle.std.specs.FinMap as finite
use Rattle.std.specs.FinMap.Entries.{where_key}
use Rattle.klp_types.specs.declared.shadow.ShadowKey.{ShadowKey}
use Rattle.klp_types.specs.declared.edit.Edit.{Edit}
use Rattle.klp_types.specs.declared.edit.Edit.TheVariants.{Alloc, Free, FreeAll, SetData, TakePrev}
use Rattle.klp_types.specs.declared.record.Record.{Record}
use Rattle.klp_types.specs.declared.record.Record.TheVariants.{StateValue, StateRow, InstalledPatch}
use Rattle.klp_types.specs.World.{Installed, World, Shadow, ShadowValue, key_cmp, variable, state_value, states_of, value_among, set_among, change_states, taken_out, previous_value, with_variable, without_variable, without_id, with_value, with_patch, without_patch}
use Rattle.klp_types.specs.Script.{Script, alloc_count, allocated, value_taken, edited, edited_by, edits_made, effect}
use Rattle.klp_types.specs.declared.limits.TheConstants.{MAX_VARIABLES, MAX_PATCHES, MAX_STATES}
use Rattle.klp_types.proofs.KeyLemmas.{key_total}
use Rattle.klp_types.proofs.ScriptLemmas.{edit_room, made_allocs}
use Rattle.klp_world.specs.Undo.{put_back, put_state, undone, HaveEffects}
use Rattle.klp_world.specs.StoredEvent.{row_if_added, rows_of_alloc, row_if_removed, rows_of_free, variable_row, variable_rows, rows_of_free_all, row_if_set, rows_of_set, rows_of_take, rows_of_add, state_row, rows_if_dropped, rows_of_drop, rows_of_edit, rows_of_edits, rows_of_script}
use Rattle.klp_world.proofs.First.{FirstAt}
use Rattle.klp_world.proofs.PatchLemmas.{is_patch, place_at}
use Rattle.klp_world.proofs.ShadowLemmas.{same_ties}
use Rattle.klp_world.proofs.LeftLemmas.{left_of, AreThere, others_there, next_taken, new_states, new_are_there}
use Rattle.klp_world.proofs.UndoLemmas.{undone-append, undone_free, undone_free_all, undone_set, undone_add, changed, restored, undone_variables, few_restored, of_id, count_parted, change_twice, lone, last_states, undone_new_states, one_shorter, put_again}
use Rattle.klp_world.proofs.ScriptLemmas.{undone_edits}

-- records that tell changes, one list behind another
pub effective_both : (world : World) (older newer : List Record) → HaveEffects (undone world newer) older → HaveEffects world newer → HaveEffects world (older ++ newer)
effective_both world [] newer of_older of_newer = of_newer
effective_both world (row ∷ older) newer of_older of_newer =
    (subst (λ w. put_back w row ≢ w) (sym (undone-append world older newer)) of_older.0, effective_both world older newer of_older.1 of_newer)

-- variables

at_own : {V : Type 0} (o : Option V) (key : ShadowKey) (other : Option V) → cond (eq_by_cmp key_cmp key key) o other ≡ o
at_own o key other = ap (λ b. cond b o other) (same_ties key key refl)

there_now : (m : Shadow) (key : ShadowKey) (value : ShadowValue) → finite.get (finite.insert m key value) key ≡ Some value
there_now m key value = finite.get-insert key_total m key value key ∙ at_own (Some value) key (finite.get m key)

gone_now : (m : Shadow) (key : ShadowKey) → finite.get (finite.remove m key) key ≡ None
gone_now m key = finite.get-remove key_total m key key ∙ at_own None key (finite.get m key)

pub effective_alloc : (world : World) (key : ShadowKey) (value : ShadowValue) → HaveEffects (allocated world key value (variable world key)) (rows_of_alloc world key)
effective_alloc world key value = of_added (variable world key)
  where
    of_added : (o : Option ShadowValue) → HaveEffects (allocated world key value o) (row_if_added key o)
    of_added (Some there) = tt
    of_added None = (
      λ same.
          let none = gone_now (finite.insert world.shadow key value) key in
          let some = there_now world.shadow key value in
          let alike = ap (λ w. variable w key) same in
          cc,
      tt,
    )

pub alloc_effective : (world : World) (key : ShadowKey) (value : ShadowValue) (new : World) → new ≡ with_variable world key value → variable world key ≡ None → HaveEffects new (rows_of_alloc world key)
alloc_effective world key value new is none =
    subst (λ w. HaveEffects w (rows_of_alloc world key)) (sym (is ∙ ap (allocated world key value) (sym none))) (effective_alloc world key value)

pub effective_free : (world : World) (key : ShadowKey) → finite.len world.shadow ≤ MAX_VARIABLES → HaveEffects (without_variable world key) (rows_of_free world key)
effective_free world key few =
    elim (variable world key) as (λ o. variable world key ≡ o → undone (without_variable world key) (row_if_removed key o) ≡ world → HaveEffects (without_variable world key) (row_if_removed key o)) [
      | None ↦ λ e back. tt
      | Some was ↦ λ e back. (
        λ same.
            let none = gone_now world.shadow key in
            let alike = ap (λ w. variable w key) (sym back ∙ same) in
            cc,
        tt,
      )
    ] refl (undone_free world key few)

one_restored : (m : Shadow) (v : ShadowKey × ShadowValue) (vs : List (ShadowKey × ShadowValue)) → finite.len (restored m (v ∷ vs)) ≤ finite.len (restored m vs) + 1
one_restored m v vs =
    elim (ltb (finite.len (restored m vs)) MAX_VARIABLES) as (λ b. finite.len (cond b (finite.insert (restored m vs) v.0 v.1) (restored m vs)) ≤ finite.len (restored m vs) + 1) [
      | true ↦ grind (arith, finite.len-insert key_total (restored m vs) v.0 v.1)
      | false ↦ omega arith
    ]

-- where as many variables come back as are told, each comes back
effective_variables : (world : World) (vs : List (ShadowKey × ShadowValue)) → finite.len (restored world.shadow vs) ≡ finite.len world.shadow + length vs → HaveEffects world (map variable_row vs)
effective_variables world [] all = tt
effective_variables world (v ∷ vs) all =
    let few = few_restored world.shadow vs in
    let one = one_restored world.shadow v vs in (
      λ same.
          let before = ap (λ (w : World). finite.len w.shadow) (undone_variables world vs) in
          let after = ap (λ (w : World). finite.len w.shadow) (undone_variables world (v ∷ vs)) in
          let alike = ap (λ (w : World). finite.len w.shadow) same in
          omega arith,
      effective_variables world vs (omega arith),
    )

pub effective_free_all : (world : World) (id : ℕ) → finite.len world.shadow ≤ MAX_VARIABLES → HaveEffects (without_id world id) (rows_of_free_all world id)
effective_free_all world id few =
    let gone = where_key key_cmp (of_id id) (finite.entries world.shadow) in
    let rows : length (variable_rows id (finite.entries world.shadow)) ≡ length gone = length-map gone variable_row in
    let parted = count_parted world.shadow id in
    let back = ap (λ (w : World). finite.len w.shadow) (sym (undone_variables (without_id world id) gone) ∙ undone_free_all world id few) in
    effective_variables (without_id world id) gone (omega arith)

-- states

-- the states of a patch that is installed, and none where it isn't, once they change
states_changed : (patch : ℕ) (f : List (ℕ × ℕ) → List (ℕ × ℕ)) (patches : List Installed) → f [] ≡ [] → states_of patch (change_states patch f patches) ≡ f (states_of patch patches)
states_changed patch f [] none = sym none
states_changed patch f (first ∷ newer) none =
    elim (first.patch == patch) as (λ b. (first.patch == patch) ≡ b → states_of patch (changed patch f first newer b) ≡ f (cond b first.values (states_of patch newer))) [
      | true ↦ λ t. ap (λ b. cond b (f first.values) (states_of patch newer)) t
      | false ↦ λ t. ap (λ b. cond b first.values (states_of patch (change_states patch f newer))) t ∙ states_changed patch f newer none
    ] refl

value_set : (id value was : ℕ) (states : List (ℕ × ℕ)) → value_among id states ≡ Some was → value_among id (set_among id value states) ≡ Some value
value_set id value was [] e = cc
value_set id value was (state ∷ states) e =
    elim (state.0 == id) as (λ b. (state.0 == id) ≡ b → cond b (Some state.1) (value_among id states) ≡ Some was
    → value_among id (cond b ((id, value) ∷ states) (state ∷ set_among id value states)) ≡ Some value) [
      | true ↦ λ t is. ap (λ b. cond b (Some value) (value_among id states)) (eq-eqb id id refl)
      | false ↦ λ t is. ap (λ b. cond b (Some state.1) (value_among id (set_among id value states))) t ∙ value_set id value was states is
    ] refl e

pub effective_set : (world : World) (patch id value : ℕ) → HaveEffects (with_value world patch id value) (rows_of_set world patch id value)
effective_set world patch id value =
    elim (state_value world patch id) as (λ o. state_value world patch id ≡ o → undone (with_value world patch id value) (row_if_set patch id value o) ≡ world
    → HaveEffects (with_value world patch id value) (row_if_set patch id value o)) [
      | None ↦ λ e back. tt
      | Some was ↦ λ e.
          elim (was == value) as (λ b. (was == value) ≡ b → undone (with_value world patch id value) (cond b [] (StateValue patch id was ∷ [])) ≡ world
          → HaveEffects (with_value world patch id value) (cond b [] (StateValue patch id was ∷ []))) [
            | true ↦ λ t back. tt
            | false ↦ λ t back. (
              λ same.
                  let now = ap (value_among id) (states_changed patch (set_among id value) world.installed refl) ∙ value_set id value was (states_of patch world.installed) e in
                  let alike = ap (λ w. state_value w patch id) (sym back ∙ same) in
                  let own : was ≡ value = cc in
                  let yes = eq-eqb was value own in
                  cc,
              tt,
            )
          ] refl
    ] refl (undone_set world patch id value)

-- a patch with its states

effective_new_states : (world : World) (patch : ℕ) (patches : List Installed) (values : List (ℕ × ℕ)) (ids : List ℕ) → list_any (λ (i : Installed). i.patch == patch) patches ≡ false
    → AreThere ids values
    → HaveEffects (record world { installed = patches ++ lone patch values }) (map (λ id. StateRow patch id None) ids)
effective_new_states world patch patches values [] fresh all = tt
effective_new_states world patch patches values (id ∷ ids) fresh all = (
  λ same.
      let before = undone_new_states world patch patches values ids fresh in
      let after = undone_new_states world patch patches values (id ∷ ids) fresh in
      let alike : ◌≡◌ {A = World} (record world { installed = patches ++ lone patch (left_of (id ∷ ids) values) }) (record world { installed = patches ++ lone patch (left_of ids values) }) = sym after ∙ same ∙ before in
      let states = sym (last_states patch patches (left_of (id ∷ ids) values) fresh) ∙ ap (λ (w : World). states_of patch w.installed) alike ∙ last_states patch patches (left_of ids values) fresh in
      let shorter = next_taken id ids values all in
      let even = ap length states in
      omega arith,
  effective_new_states world patch patches values ids fresh (others_there id ids values all),
)

pub effective_add : (world : World) (patch : ℕ) (ids : List ℕ) → list_any (λ (i : Installed). i.patch == patch) world.installed ≡ false → HaveEffects (with_patch world patch ids) (rows_of_add patch ids)
effective_add world patch ids fresh =
    let values = new_states ids in
    let left : List Installed = world.installed ++ lone patch (left_of ids values) in (
      λ same.
          let alike : world ≡ record world { installed = left } = sym (undone_add world patch ids fresh) ∙ same ∙ undone_new_states world patch world.installed values ids fresh in
          let even : length world.installed ≡ length left = ap (λ (w : World). length w.installed) alike in
          let longer : length left ≡ length world.installed + 1 = length-append world.installed (lone patch (left_of ids values)) in
          omega arith,
      effective_new_states world patch world.installed values ids fresh (new_are_there ids),
    )

own_states : (patch i : ℕ) (patches : List Installed) (values : List (ℕ × ℕ)) → FirstAt (is_patch patch) patches i → states_of patch (change_states patch (λ _. values) patches) ≡ values
own_states patch i [] values h = absurd h
own_states patch zero (first ∷ newer) values h =
    ap (λ b. states_of patch (changed patch (λ _. values) first newer b)) h ∙ ap (λ b. cond b values (states_of patch newer)) h
own_states patch (suc i) (first ∷ newer) values h =
    ap (λ b. states_of patch (changed patch (λ _. values) first newer b)) h.0
    ∙ ap (λ b. cond b first.values (states_of patch (change_states patch (λ _. values) newer))) h.0 ∙ own_states patch i newer values h.1

-- states that are put back, one behind another
effective_states : (world : World) (patch i : ℕ) (patches : List Installed) (states values : List (ℕ × ℕ)) → FirstAt (is_patch patch) patches i → length values + length states ≤ MAX_STATES
    → HaveEffects (record world { installed = change_states patch (λ _. values) patches }) (map (state_row patch) (reverse states))
effective_states world patch i patches [] values h few = tt
effective_states world patch i patches (state ∷ states) values h few =
    let start : World = record world { installed = change_states patch (λ _. values) patches } in
    let next : World = record world { installed = change_states patch (λ _. values ++ state ∷ []) patches } in
    let longer : length (values ++ state ∷ []) ≡ length values + 1 = length-append values (state ∷ []) in
    let put : put_back start (state_row patch state) ≡ next =
    ap (λ p. record world { installed = p })
    (change_twice patch (λ _. values) (put_state state.0 (Some state.1)) patches
    ∙ ap (λ b. change_states patch (λ _. cond b (values ++ state ∷ []) values) patches) (lt-ltb _ _ (omega arith))) in
    subst (HaveEffects start) (sym (ap (map (state_row patch)) (reverse-append (state ∷ []) states) ∙ map-append (state_row patch) (reverse states) (state ∷ [])))
    (effective_both start (map (state_row patch) (reverse states)) (state_row patch state ∷ [])
    (subst (λ w. HaveEffects w (map (state_row patch) (reverse states))) (sym put) (effective_states world patch i patches states (values ++ state ∷ []) h (omega arith))) (
      λ same.
          let alike = sym put ∙ same in
          let even = sym (own_states patch i patches (values ++ state ∷ []) h) ∙ ap (λ (w : World). states_of patch w.installed) alike ∙ own_states patch i patches values h in
          let lengths = ap length even in
          omega arith,
      tt,
    ))

pub effective_drop : (world : World) (patch i : ℕ) → FirstAt (is_patch patch) world.installed i → length world.installed ≤ MAX_PATCHES → length (states_of patch world.installed) ≤ MAX_STATES
    → HaveEffects (without_patch world patch) (rows_of_drop world patch)
effective_drop world patch i h few_patches few_states =
    let patches = world.installed in
    let states = states_of patch patches in
    let shorter = one_shorter patch patches i h in
    let put = put_back (without_patch world patch) (InstalledPatch patch (Some i)) in
    let emptied : World = record world { installed = change_states patch (λ _. []) patches } in
    let again : put ≡ emptied =
    ap (λ b. record world { installed = cond b (insert (taken_out patch patches) i (record { patch = patch; values = [] })) (taken_out patch patches) }) (lt-ltb _ _ (omega arith))
    ∙ ap (λ p. record world { installed = p }) (put_again patch patches i h) in
    subst (λ place. HaveEffects (without_patch world patch) (rows_if_dropped patch states place)) (sym (place_at patch patches i h))
    (effective_both (without_patch world patch) (map (state_row patch) (reverse states)) (InstalledPatch patch (Some i) ∷ [])
    (subst (λ w. HaveEffects w (map (state_row patch) (reverse states))) (sym again) (effective_states world patch i patches states [] h (omega arith))) (
      λ same.
          let even = ap (λ (w : World). length w.installed) (sym again ∙ same) in
          let kept = as_many patch (λ _. []) patches in
          omega arith,
      tt,
    ))
  where
    as_many : (patch : ℕ) (f : List (ℕ × ℕ) → List (ℕ × ℕ)) (patches : List Installed) → length (change_states patch f patches) ≡ length patches
    as_many patch f [] = refl
    as_many patch f (first ∷ newer) = elim (first.patch == patch) as (λ b. length (changed patch f first newer b) ≡ suc (length newer)) [ true ↦ refl | false ↦ ap suc (as_many patch f newer) ]

-- scripts

effective_take : (patch : ℕ) (world : World) (id : ℕ) (o : Option ℕ) → HaveEffects (value_taken world patch id o) (rows_of_take world patch id o)
effective_take patch world id None = tt
effective_take patch world id (Some value) = effective_set world patch id value

effective_edit : (patch : ℕ) (world : World) (edit : Edit) → finite.len world.shadow ≤ MAX_VARIABLES → HaveEffects (edited patch world edit) (rows_of_edit patch world edit)
effective_edit patch world (Alloc key value) few = effective_alloc world key value
effective_edit patch world (Free key) few = effective_free world key few
effective_edit patch world (FreeAll id) few = effective_free_all world id few
effective_edit patch world (SetData id value) few = effective_set world patch id value
effective_edit patch world (TakePrev id) few = effective_take patch world id (previous_value world patch id)

effective_edits : (patch : ℕ) (world : World) (edits : List Edit) → finite.len world.shadow + alloc_count edits ≤ MAX_VARIABLES
    → HaveEffects (edited_by patch world edits) (rows_of_edits patch world edits)
effective_edits patch world [] few = tt
effective_edits patch world (edit ∷ edits) few =
    let room = edit_room patch world edit edits in
    let after = edited patch world edit in
    effective_both (edited_by patch after edits) (rows_of_edit patch world edit) (rows_of_edits patch after edits)
    (subst (λ w. HaveEffects w (rows_of_edit patch world edit)) (sym (undone_edits patch after edits (omega arith))) (effective_edit patch world edit (omega arith)))
    (effective_edits patch after edits (omega arith))

pub effective_script : (patch : ℕ) (world : World) (script : Script) → finite.len world.shadow + alloc_count script.edits ≤ MAX_VARIABLES
    → HaveEffects (effect patch world script) (rows_of_script patch world script)
effective_script patch world script few =
    let made = made_allocs script in effective_edits patch world (edits_made script) (omega arith)
