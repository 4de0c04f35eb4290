-- What scripts do to a world: to each shadow variable by itself, to the states of no other patch, and to their number.
use Rattle.std.proofs.Common.{◌≡◌, ℕ, suc, ◌+◌, ◌-◌, ◌≤◌, Bool, true, false, not, ◌&&◌, cond, List, [], ◌∷◌, length, map, refl, sym, ap, ◌∙◌, arith, Option, Some, None}
use Rattle.std.specs.Bool.{◌==◌}
use Rattle.std.specs.Option.{unwrap_or, is_some}
use Rattle.std.specs.List.{list_any}
use Rattle.std.proofs.lemmas.Bool.{eqb-true, or_parts}
use Rattle.std.proofs.lemmas.Bool.Decides.{nat_tests}
use Rattle.std.specs.FinMap as finite
use Rattle.klp_types.specs.declared.shadow.ShadowKey.{ShadowKey}
use Rattle.klp_types.specs.declared.edit.Edit.{Edit}
use Rattle.klp_types.specs.declared.edit.Edit.TheVariants.{Alloc, Free, FreeAll, SetData, TakePrev}
use Rattle.klp_types.specs.World.{Installed, World, Shadow, ShadowValue, variable, previous_value, states_of, set_among, change_states}
use Rattle.klp_types.specs.Script.{Script, is_success, alloc_count, is_alloc, is_key, allocated, value_taken, edited, edited_at, edited_by, made_of, edits_made, effect, edit_touches, touches}
use Rattle.klp_types.specs.Callbacks.{Call, after_calls}
use Rattle.klp_types.proofs.KeyLemmas.{key_total, key_antisymmetric, tied_if_same, same_key, alike, few_kept}

kept : (b : Bool) (o : Option ShadowValue) (value there : ShadowValue) → (b ≡ true → o ≡ Some there) → o ≡ cond b (Some (unwrap_or o value)) o
kept true o value there is = is refl ∙ sym (ap (λ o. Some (unwrap_or o value)) (is refl))
kept false o value there is = refl

added : (b : Bool) (o : Option ShadowValue) (value : ShadowValue) → (b ≡ true → o ≡ None) → cond b (Some value) o ≡ cond b (Some (unwrap_or o value)) o
added true o value is = sym (ap (λ o. Some (unwrap_or o value)) (is refl))
added false o value is = refl

alloc_at : (world : World) (own key : ShadowKey) (value : ShadowValue) → variable (allocated world own value (variable world own)) key ≡ cond (is_key own key) (Some (unwrap_or (variable world key) value)) (variable world key)
alloc_at world own key value =
    let here = λ (e : is_key own key ≡ true). ap (variable world) (sym (same_key own key e)) in
    elim (variable world own) as (λ o. variable world own ≡ o → variable (allocated world own value o) key ≡ cond (is_key own key) (Some (unwrap_or (variable world key) value)) (variable world key)) [
      | Some there ↦ λ is. kept (is_key own key) (variable world key) value there (λ e. here e ∙ is)
      | None ↦ λ is. finite.get-insert key_total world.shadow own value key ∙ ap (λ b. cond b (Some value) (variable world key)) (tied_if_same key own)
          ∙ added (is_key own key) (variable world key) value (λ e. here e ∙ is)
    ] refl

turned : (b : Bool) (o : Option ShadowValue) → cond (not b) o None ≡ cond b None o
turned true o = refl
turned false o = refl

equal_either_way : (a b : ℕ) → (a == b) ≡ (b == a)
equal_either_way a b = grind (arith, nat_tests)

pub taken_leaves : (world : World) (patch id : ℕ) (o : Option ℕ) → (value_taken world patch id o).shadow ≡ world.shadow
taken_leaves world patch id None = refl
taken_leaves world patch id (Some value) = refl

pub key_by_key : (patch : ℕ) (world : World) (edit : Edit) (key : ShadowKey) → variable (edited patch world edit) key ≡ edited_at key (variable world key) edit
key_by_key patch world (Alloc own value) key = alloc_at world own key value
key_by_key patch world (Free own) key =
    finite.get-remove key_total world.shadow own key ∙ ap (λ b. cond b None (variable world key)) (tied_if_same key own)
key_by_key patch world (FreeAll id) key =
    let keep = λ (k : ShadowKey). not (k.id == id) in
    finite.get-retain_keys world.shadow keep key (alike keep key) ∙ turned (key.id == id) (variable world key)
    ∙ ap (λ b. cond b None (variable world key)) (equal_either_way key.id id)
key_by_key patch world (SetData id value) key = refl
key_by_key patch world (TakePrev id) key = ap (λ (s : Shadow). finite.get s key) (taken_leaves world patch id (previous_value world patch id))

pub all_by_key : (patch : ℕ) (world : World) (edits : List Edit) (key : ShadowKey) → variable (edited_by patch world edits) key ≡ made_of key (variable world key) edits
all_by_key patch world [] key = refl
all_by_key patch world (edit ∷ edits) key =
    all_by_key patch (edited patch world edit) edits key ∙ ap (λ was. made_of key was edits) (key_by_key patch world edit key)

left_alone : (edit : Edit) (key : ShadowKey) (was : Option ShadowValue) → edit_touches key edit ≡ false → edited_at key was edit ≡ was
left_alone (Alloc own value) key was e = ap (λ b. cond b (Some (unwrap_or was value)) was) e
left_alone (Free own) key was e = ap (λ b. cond b None was) e
left_alone (FreeAll id) key was e = ap (λ b. cond b None was) e
left_alone (SetData id value) key was e = refl
left_alone (TakePrev id) key was e = refl

pub all_left_alone : (edits : List Edit) (key : ShadowKey) (was : Option ShadowValue) → list_any (edit_touches key) edits ≡ false → made_of key was edits ≡ was
all_left_alone [] key was e = refl
all_left_alone (edit ∷ edits) key was e =
    let parts = or_parts (edit_touches key edit) (list_any (edit_touches key) edits) e in
    ap (λ was. made_of key was edits) (left_alone edit key was parts.0) ∙ all_left_alone edits key was parts.1

pub untouched : (patch : ℕ) (world : World) (script : Script) (key : ShadowKey) → touches script key ≡ false → variable (effect patch world script) key ≡ variable world key
untouched patch world script key e = all_by_key patch world (edits_made script) key ∙ all_left_alone (edits_made script) key (variable world key) e

second_false : (a b : Bool) → (a && b) ≡ false → a ≡ true → b ≡ false
second_false true b e is = e
second_false false b e is = cc

-- a script makes of a variable what it would make without one that leaves it alone
after_other : (p q : ℕ) (a b : Script) (world : World) (key : ShadowKey) → touches b key ≡ false → variable (effect p (effect q world b) a) key ≡ variable (effect p world a) key
after_other p q a b world key e =
    all_by_key p (effect q world b) (edits_made a) key ∙ ap (λ was. made_of key was (edits_made a)) (untouched q world b key e) ∙ sym (all_by_key p world (edits_made a) key)

either_order : (p q : ℕ) (a b : Script) (world : World) (key : ShadowKey) → (touches a key && touches b key) ≡ false
    → variable (effect q (effect p world a) b) key ≡ variable (effect p (effect q world b) a) key
either_order p q a b world key apart =
    elim (touches a key) as (λ t. touches a key ≡ t → variable (effect q (effect p world a) b) key ≡ variable (effect p (effect q world b) a) key) [
      | true ↦ λ e. let alone = second_false (touches a key) (touches b key) apart e in
          untouched q (effect p world a) b key alone ∙ sym (after_other p q a b world key alone)
      | false ↦ λ e. after_other q p b a world key e ∙ sym (untouched p (effect q world b) a key e)
    ] refl

pub commute : (p q : ℕ) (a b : Script) (world : World) → ((key : ShadowKey) → (touches a key && touches b key) ≡ false)
    → (effect q (effect p world a) b).shadow ≡ (effect p (effect q world b) a).shadow
commute p q a b world apart = finite.same_map key_total key_antisymmetric _ _ (λ key. either_order p q a b world key (apart key))

another : (own patch other : ℕ) → (other ≡ patch → ⊥) → (own == patch) ≡ true → (own == other) ≡ false
another own patch other differs e =
    elim (own == other) as (λ b. (own == other) ≡ b → b ≡ false) [
      | true ↦ λ t. absurd (differs (sym (eqb-true own other t) ∙ eqb-true own patch e))
      | false ↦ λ t. refl
    ] refl

change_leaves : (patch other : ℕ) (change : List (ℕ × ℕ) → List (ℕ × ℕ)) (patches : List Installed) → (other ≡ patch → ⊥) → states_of other (change_states patch change patches) ≡ states_of other patches
change_leaves patch other change [] differs = refl
change_leaves patch other change (first ∷ newer) differs =
    elim (first.patch == patch) as (λ b. (first.patch == patch) ≡ b
    → states_of other (cond b (record first { values = change first.values } ∷ newer) (first ∷ change_states patch change newer)) ≡ states_of other (first ∷ newer)) [
      | true ↦ λ e. let not_this = another first.patch patch other differs e in
          ap (λ b. cond b (change first.values) (states_of other newer)) not_this ∙ sym (ap (λ b. cond b first.values (states_of other newer)) not_this)
      | false ↦ λ e. ap (cond (first.patch == other) first.values) (change_leaves patch other change newer differs)
    ] refl

change_keeps : (patch : ℕ) (change : List (ℕ × ℕ) → List (ℕ × ℕ)) (patches : List Installed) → map (λ (i : Installed). i.patch) (change_states patch change patches) ≡ map (λ (i : Installed). i.patch) patches
change_keeps patch change [] = refl
change_keeps patch change (first ∷ newer) =
    elim (first.patch == patch) as (λ b. map (λ (i : Installed). i.patch) (cond b (record first { values = change first.values } ∷ newer) (first ∷ change_states patch change newer)) ≡ first.patch ∷ map (λ (i : Installed). i.patch) newer) [
      | true ↦ refl
      | false ↦ ap (first.patch ∷◌) (change_keeps patch change newer)
    ]

module _ (patch : ℕ) {A : Type 0} (look : List Installed → A) (stays : (change : List (ℕ × ℕ) → List (ℕ × ℕ)) (patches : List Installed) → look (change_states patch change patches) ≡ look patches) where
  allocated_stays : (world : World) (key : ShadowKey) (value : ShadowValue) (o : Option ShadowValue) → look (allocated world key value o).installed ≡ look world.installed
  allocated_stays world key value None = refl
  allocated_stays world key value (Some there) = refl

  taken_stays : (world : World) (id : ℕ) (o : Option ℕ) → look (value_taken world patch id o).installed ≡ look world.installed
  taken_stays world id None = refl
  taken_stays world id (Some value) = stays (set_among id value) world.installed

  edited_stays : (world : World) (edit : Edit) → look (edited patch world edit).installed ≡ look world.installed
  edited_stays world (Alloc key value) = allocated_stays world key value (variable world key)
  edited_stays world (Free key) = refl
  edited_stays world (FreeAll id) = refl
  edited_stays world (SetData id value) = stays (set_among id value) world.installed
  edited_stays world (TakePrev id) = taken_stays world id (previous_value world patch id)

  pub all_edited_stays : (world : World) (edits : List Edit) → look (edited_by patch world edits).installed ≡ look world.installed
  all_edited_stays world [] = refl
  all_edited_stays world (edit ∷ edits) = all_edited_stays (edited patch world edit) edits ∙ edited_stays world edit

pub others_stay : (patch other : ℕ) (world : World) (script : Script) → (other ≡ patch → ⊥) → states_of other (effect patch world script).installed ≡ states_of other world.installed
others_stay patch other world script differs =
    all_edited_stays patch (states_of other) (λ change patches. change_leaves patch other change patches differs) world (edits_made script)

pub installed_stay : (patch : ℕ) (world : World) (script : Script) → map (λ (i : Installed). i.patch) (effect patch world script).installed ≡ map (λ (i : Installed). i.patch) world.installed
installed_stay patch world script = all_edited_stays patch (map (λ (i : Installed). i.patch)) (change_keeps patch) world (edits_made script)

-- an edit makes room for no more than it adds
pub edit_room : (patch : ℕ) (world : World) (edit : Edit) (edits : List Edit)
    → finite.len (edited patch world edit).shadow + alloc_count edits ≤ finite.len world.shadow + alloc_count (edit ∷ edits)
edit_room patch world (Alloc key value) edits =
    let more : alloc_count (Alloc key value ∷ edits) ≡ 1 + alloc_count edits = refl in
    elim (variable world key) as (λ o. finite.len (allocated world key value o).shadow + alloc_count edits ≤ finite.len world.shadow + alloc_count (Alloc key value ∷ edits)) [
      | Some there ↦ omega arith
      | None ↦ elim (is_some (variable world key)) as (λ b. finite.len (finite.insert world.shadow key value) ≡ cond b (finite.len world.shadow) (finite.len world.shadow + 1)
          → finite.len (finite.insert world.shadow key value) + alloc_count edits ≤ finite.len world.shadow + alloc_count (Alloc key value ∷ edits)) [ true ↦ λ e. omega arith | false ↦ λ e. omega arith ] (finite.len-insert key_total world.shadow key value)
    ]
edit_room patch world (Free key) edits =
    elim (is_some (variable world key)) as (λ b. finite.len (finite.remove world.shadow key) ≡ cond b (finite.len world.shadow - 1) (finite.len world.shadow)
    → finite.len (finite.remove world.shadow key) + alloc_count edits ≤ finite.len world.shadow + alloc_count edits) [ true ↦ λ e. omega arith | false ↦ λ e. omega arith ] (finite.len-remove key_total world.shadow key)
edit_room patch world (FreeAll id) edits = let few = few_kept world.shadow (λ (key : ShadowKey). not (key.id == id)) in omega arith
edit_room patch world (SetData id value) edits = omega arith
edit_room patch world (TakePrev id) edits =
    let same = ap (λ (s : Shadow). finite.len s) (taken_leaves world patch id (previous_value world patch id)) in omega arith

made_few : (b : Bool) (edits : List Edit) → alloc_count (cond b edits []) ≤ alloc_count edits
made_few true edits = omega arith
made_few false edits = omega arith

-- a script makes no more edits than it has
pub made_allocs : (script : Script) → alloc_count (edits_made script) ≤ alloc_count script.edits
made_allocs script = made_few (is_success script.status) script.edits

edits_room : (patch : ℕ) (world : World) (edits : List Edit) → finite.len (edited_by patch world edits).shadow ≤ finite.len world.shadow + alloc_count edits
edits_room patch world [] = omega arith
edits_room patch world (edit ∷ edits) =
    let first = edit_room patch world edit edits in
    let others = edits_room patch (edited patch world edit) edits in
    omega arith

-- an edit adds at most one variable
pub few_allocs : (edits : List Edit) → alloc_count edits ≤ length edits
few_allocs [] = omega arith
few_allocs (edit ∷ edits) =
    let few = few_allocs edits in
    elim (is_alloc edit) as (λ b. cond b (1 + alloc_count edits) (alloc_count edits) ≤ suc (length edits)) [ true ↦ omega arith | false ↦ omega arith ]

-- a script adds no more variables than it has allocs
pub script_room : (patch : ℕ) (world : World) (script : Script) → finite.len (effect patch world script).shadow ≤ finite.len world.shadow + alloc_count script.edits
script_room patch world script =
    let made = made_allocs script in
    let room = edits_room patch world (edits_made script) in
    omega arith

-- The shadow variables that a script leaves depend on no more than those that were there.
allocated_same : (a b : World) (key : ShadowKey) (value : ShadowValue) (o : Option ShadowValue) → a.shadow ≡ b.shadow → (allocated a key value o).shadow ≡ (allocated b key value o).shadow
allocated_same a b key value None e = ap (λ (s : Shadow). finite.insert s key value) e
allocated_same a b key value (Some there) e = e

edited_same : (patch : ℕ) (a b : World) (edit : Edit) → a.shadow ≡ b.shadow → (edited patch a edit).shadow ≡ (edited patch b edit).shadow
edited_same patch a b (Alloc key value) e =
    ap (λ o. (allocated a key value o).shadow) (ap (λ (s : Shadow). finite.get s key) e) ∙ allocated_same a b key value (variable b key) e
edited_same patch a b (Free key) e = ap (λ (s : Shadow). finite.remove s key) e
edited_same patch a b (FreeAll id) e = ap (λ (s : Shadow). finite.retain_keys s (λ (key : ShadowKey). not (key.id == id))) e
edited_same patch a b (SetData id value) e = e
edited_same patch a b (TakePrev id) e =
    taken_leaves a patch id (previous_value a patch id) ∙ e ∙ sym (taken_leaves b patch id (previous_value b patch id))

edits_same : (patch : ℕ) (a b : World) (edits : List Edit) → a.shadow ≡ b.shadow → (edited_by patch a edits).shadow ≡ (edited_by patch b edits).shadow
edits_same patch a b [] e = e
edits_same patch a b (edit ∷ edits) e = edits_same patch (edited patch a edit) (edited patch b edit) edits (edited_same patch a b edit e)

pub after_same : (a b : World) (calls : List Call) → a.shadow ≡ b.shadow → (after_calls a calls).shadow ≡ (after_calls b calls).shadow
after_same a b [] e = e
after_same a b (call ∷ calls) e =
    after_same (effect call.patch a call.script) (effect call.patch b call.script) calls (edits_same call.patch a b (edits_made call.script) e)
