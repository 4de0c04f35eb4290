-- The records that a change notes give back the world before it.
use Rattle.std.proofs.Common.{◌≡◌, ℕ, zero, suc, ◌+◌, ◌-◌, ◌<◌, ◌≤◌, Bool, true, false, not, cond, ltb, List, [], ◌∷◌, ◌++◌, length, length-append, append_assoc, append-nil, map, refl, sym, ap, ◌∙◌, arith, Option, Some, None, reverse}
use Rattle.std.specs.Bool.{◌==◌}
use Rattle.std.specs.Option.{is_some}
use Rattle.std.specs.List.{insert, list_any}
use Rattle.std.proofs.lemmas.Bool.{lt-ltb, eqb-true, eq-eqb, or_parts}
use Rattle.std.proofs.lemmas.List.{map-append, reverse-append, length-map}
use Rattle.std.proofs.lemmas.List.Filters.{length-filter_both}
use Rattle.std.specs.declared.cmp.Ordering.TheVariants.{Equal}
use Rattle.std.specs.Ordering.{eq_by_cmp}
use Rattle.std.specs.FinMap as finite
use Rattle.std.specs.FinMap.Entries.{where_key, find-where_key}
use Rattle.klp_types.specs.declared.shadow.ShadowKey.{ShadowKey}
use Rattle.klp_types.specs.declared.record.Record.{Record}
use Rattle.klp_types.specs.declared.record.Record.TheVariants.{StateValue, StateRow, InstalledPatch}
use Rattle.klp_types.specs.World.{Installed}
use Rattle.klp_types.specs.World.{World, Shadow, key_cmp, variable, state_value, states_of, value_among, set_among, change_states, taken_out, with_variable, without_variable, without_id, with_value, with_patch, without_patch, ShadowValue}
use Rattle.klp_types.specs.Script.{allocated}
use Rattle.klp_types.specs.declared.limits.TheConstants.{MAX_VARIABLES, MAX_PATCHES, MAX_STATES}
use Rattle.klp_types.specs.Entries.{is_empty}
use Rattle.klp_world.specs.Undo.{put_back, put_patch, put_state, put_variable, undone}
use Rattle.klp_world.specs.StoredEvent.{row_if_added, rows_of_alloc, row_if_removed, rows_of_free, variable_row, variable_rows, rows_of_free_all, row_if_set, rows_of_set, rows_of_add, state_row, rows_if_dropped, rows_of_drop}
use Rattle.klp_world.proofs.First.{FirstAt}
use Rattle.klp_world.proofs.LeftLemmas.{left_of, new_states, none_left}
use Rattle.klp_world.proofs.PatchLemmas.{is_patch, place_at}
use Rattle.klp_types.proofs.KeyLemmas.{key_total, key_antisymmetric}
use Rattle.klp_world.proofs.ShadowLemmas.{unchanged, equal_if, kept_if_none, as_entries, sorted_entries, where_as_map, len_as_map, sorted_where}

-- what is put back newest first
pub undone-append : (world : World) (older newer : List Record) → undone world (older ++ newer) ≡ undone (undone world newer) older
undone-append world [] newer = refl
undone-append world (row ∷ older) newer = ap (λ w. put_back w row) (undone-append world older newer)

same_twice : {A : Type 0} (b : Bool) (x y z : A) → cond b x (cond b y z) ≡ cond b x z
same_twice true x y z = refl
same_twice false x y z = refl

kept_if_some : (b : Bool) (o : Option ShadowValue) (was : ShadowValue) → (b ≡ true → o ≡ Some was) → cond b (Some was) o ≡ o
kept_if_some true o was h = sym (h refl)
kept_if_some false o was h = refl

-- the key that ties is the key
at_key : (m : Shadow) (q key : ShadowKey) (o : Option ShadowValue) → finite.get m key ≡ o → eq_by_cmp key_cmp q key ≡ true → finite.get m q ≡ o
at_key m q key o is e = ap (finite.get m) (key_antisymmetric q key (equal_if (key_cmp q key) e)) ∙ is

inserted_removed : (m : Shadow) (key : ShadowKey) (value : ShadowValue) → finite.get m key ≡ None → finite.remove (finite.insert m key value) key ≡ m
inserted_removed m key value none =
    finite.same_map key_total key_antisymmetric _ _ (λ q.
    let b = eq_by_cmp key_cmp q key in
    finite.get-remove key_total (finite.insert m key value) key q
    ∙ ap (cond b None) (finite.get-insert key_total m key value q)
    ∙ same_twice b None (Some value) (finite.get m q)
    ∙ sym (kept_if_none b (finite.get m q) (at_key m q key None none)))

removed_inserted : (m : Shadow) (key : ShadowKey) (was : ShadowValue) → finite.get m key ≡ Some was → finite.insert (finite.remove m key) key was ≡ m
removed_inserted m key was is =
    finite.same_map key_total key_antisymmetric _ _ (λ q.
    let b = eq_by_cmp key_cmp q key in
    finite.get-insert key_total (finite.remove m key) key was q
    ∙ ap (cond b (Some was)) (finite.get-remove key_total m key q)
    ∙ same_twice b (Some was) None (finite.get m q)
    ∙ kept_if_some b (finite.get m q) was (at_key m q key (Some was) is))

pub undone_alloc : (world : World) (key : ShadowKey) (value : ShadowValue) → undone (allocated world key value (variable world key)) (rows_of_alloc world key) ≡ world
undone_alloc world key value =
    elim (variable world key) as (λ o. variable world key ≡ o → undone (allocated world key value o) (row_if_added key o) ≡ world) [
      | Some there ↦ λ e. refl
      | None ↦ λ e. ap (λ s. record world { shadow = s }) (inserted_removed world.shadow key value e)
    ] refl

missing : (o : Option ShadowValue) → false ≡ is_some o → o ≡ None
missing None e = refl
missing (Some x) e = cc

pub alloc_undone : (world : World) (key : ShadowKey) (value : ShadowValue) (new : World) → new ≡ with_variable world key value → variable world key ≡ None → undone new (rows_of_alloc world key) ≡ world
alloc_undone world key value new is none =
    ap (λ w. undone w (rows_of_alloc world key)) (is ∙ ap (allocated world key value) (sym none)) ∙ undone_alloc world key value

one_less : (m : Shadow) (key : ShadowKey) (was : ShadowValue) → finite.get m key ≡ Some was → finite.len m ≤ MAX_VARIABLES → finite.len (finite.remove m key) < MAX_VARIABLES
one_less m key was is few =
    let less : finite.len (finite.remove m key) ≡ finite.len m - 1 = finite.len-remove key_total m key ∙ ap (λ o. cond (is_some o) (finite.len m - 1) (finite.len m)) is in
    omega arith

pub undone_free : (world : World) (key : ShadowKey) → finite.len world.shadow ≤ MAX_VARIABLES → undone (without_variable world key) (rows_of_free world key) ≡ world
undone_free world key few =
    elim (variable world key) as (λ o. variable world key ≡ o → undone (without_variable world key) (row_if_removed key o) ≡ world) [
      | None ↦ λ e. ap (λ s. record world { shadow = s }) (sym (unchanged world.shadow key e))
      | Some was ↦ λ e.
          ap (λ b. cond b (with_variable (without_variable world key) key was) (without_variable world key)) (lt-ltb _ _ (one_less world.shadow key was e few))
          ∙ ap (λ s. record world { shadow = s }) (removed_inserted world.shadow key was e)
    ] refl

-- a state that gets its value back
set_back : (id value was : ℕ) (states : List (ℕ × ℕ)) → value_among id states ≡ Some was → set_among id was (set_among id value states) ≡ states
set_back id value was [] e = refl
set_back id value was (state ∷ states) e =
    elim (state.0 == id) as (λ b. (state.0 == id) ≡ b → cond b (Some state.1) (value_among id states) ≡ Some was
    → set_among id was (cond b ((id, value) ∷ states) (state ∷ set_among id value states)) ≡ state ∷ states) [
      | true ↦ λ t is. let own : state.1 ≡ was = cc in
          ap (λ b. cond b ((id, was) ∷ states) ((id, value) ∷ set_among id was states)) (eq-eqb id id refl)
          ∙ (λ i. (sym (eqb-true state.0 id t) i, sym own i) ∷ states)
      | false ↦ λ t is. ap (λ b. cond b ((id, was) ∷ set_among id value states) (state ∷ set_among id was (set_among id value states))) t
          ∙ ap (state ∷◌) (set_back id value was states is)
    ] refl e

set_same : (id was : ℕ) (states : List (ℕ × ℕ)) → value_among id states ≡ Some was → set_among id was states ≡ states
set_same id was [] e = refl
set_same id was (state ∷ states) e =
    elim (state.0 == id) as (λ b. (state.0 == id) ≡ b → cond b (Some state.1) (value_among id states) ≡ Some was
    → cond b ((id, was) ∷ states) (state ∷ set_among id was states) ≡ state ∷ states) [
      | true ↦ λ t is. let own : state.1 ≡ was = cc in (λ i. (sym (eqb-true state.0 id t) i, sym own i) ∷ states)
      | false ↦ λ t is. ap (state ∷◌) (set_same id was states is)
    ] refl e

set_none : (id value : ℕ) (states : List (ℕ × ℕ)) → value_among id states ≡ None → set_among id value states ≡ states
set_none id value [] e = refl
set_none id value (state ∷ states) e =
    elim (state.0 == id) as (λ b. cond b (Some state.1) (value_among id states) ≡ None
    → cond b ((id, value) ∷ states) (state ∷ set_among id value states) ≡ state ∷ states) [
      | true ↦ λ is. cc
      | false ↦ λ is. ap (state ∷◌) (set_none id value states is)
    ] e

abbrev pub changed : ℕ → (List (ℕ × ℕ) → List (ℕ × ℕ)) → Installed → List Installed → Bool → List Installed
changed patch change first newer b = cond b (record first { values = change first.values } ∷ newer) (first ∷ change_states patch change newer)

-- a change of the states that leaves them as they are
change_same : (patch : ℕ) (change : List (ℕ × ℕ) → List (ℕ × ℕ)) (patches : List Installed) → change (states_of patch patches) ≡ states_of patch patches → change_states patch change patches ≡ patches
change_same patch change [] e = refl
change_same patch change (first ∷ newer) e =
    elim (first.patch == patch) as (λ b. change (cond b first.values (states_of patch newer)) ≡ cond b first.values (states_of patch newer)
    → changed patch change first newer b ≡ first ∷ newer) [
      | true ↦ λ is. ap (λ values. record first { values = values } ∷ newer) is
      | false ↦ λ is. ap (first ∷◌) (change_same patch change newer is)
    ] e

-- two changes, one after the other
pub change_twice : (patch : ℕ) (f g : List (ℕ × ℕ) → List (ℕ × ℕ)) (patches : List Installed) → change_states patch g (change_states patch f patches) ≡ change_states patch (λ s. g (f s)) patches
change_twice patch f g [] = refl
change_twice patch f g (first ∷ newer) =
    elim (first.patch == patch) as (λ b. (first.patch == patch) ≡ b → change_states patch g (changed patch f first newer b) ≡ changed patch (λ s. g (f s)) first newer b) [
      | true ↦ λ t. ap (changed patch g (record first { values = f first.values }) newer) t
      | false ↦ λ t. ap (changed patch g first (change_states patch f newer)) t ∙ ap (first ∷◌) (change_twice patch f g newer)
    ] refl

pub undone_set : (world : World) (patch id value : ℕ) → undone (with_value world patch id value) (rows_of_set world patch id value) ≡ world
undone_set world patch id value =
    elim (state_value world patch id) as (λ o. state_value world patch id ≡ o → undone (with_value world patch id value) (row_if_set patch id value o) ≡ world) [
      | None ↦ λ e. ap (λ p. record world { installed = p }) (change_same patch (set_among id value) world.installed (set_none id value _ e))
      | Some was ↦ λ e.
          elim (was == value) as (λ b. (was == value) ≡ b → undone (with_value world patch id value) (cond b [] (StateValue patch id was ∷ [])) ≡ world) [
            | true ↦ λ t. ap (λ p. record world { installed = p }) (change_same patch (set_among id value) world.installed (set_same id value _ (e ∙ ap Some (eqb-true was value t))))
            | false ↦ λ t. ap (λ p. record world { installed = p }) (change_twice patch (set_among id value) (set_among id was) world.installed
                ∙ change_same patch (λ s. set_among id was (set_among id value s)) world.installed (set_back id value was _ e))
          ] refl
    ] refl

-- variables that are put back, the last first
abbrev pub restored : Shadow → List (ShadowKey × ShadowValue) → Shadow
restored m [] = m
restored m (v ∷ vs) = cond (ltb (finite.len (restored m vs)) MAX_VARIABLES) (finite.insert (restored m vs) v.0 v.1) (restored m vs)

chosen : {A B : Type 0} (f : A → B) (b : Bool) (x y : A) → cond b (f x) (f y) ≡ f (cond b x y)
chosen f true x y = refl
chosen f false x y = refl

pub undone_variables : (world : World) (vs : List (ShadowKey × ShadowValue)) → undone world (map variable_row vs) ≡ record world { shadow = restored world.shadow vs }
undone_variables world [] = refl
undone_variables world (v ∷ vs) =
    ap (λ w. put_variable w v.0 (Some v.1)) (undone_variables world vs)
    ∙ chosen (λ (s : Shadow). record world { shadow = s }) (ltb (finite.len (restored world.shadow vs)) MAX_VARIABLES) _ _

pub few_restored : (m : Shadow) (vs : List (ShadowKey × ShadowValue)) → finite.len (restored m vs) ≤ finite.len m + length vs
few_restored m [] = omega arith
few_restored m (v ∷ vs) =
    let before = few_restored m vs in
    elim (ltb (finite.len (restored m vs)) MAX_VARIABLES) as (λ b. finite.len (cond b (finite.insert (restored m vs) v.0 v.1) (restored m vs)) ≤ finite.len m + suc (length vs)) [
      | true ↦ grind (arith, finite.len-insert key_total (restored m vs) v.0 v.1)
      | false ↦ omega arith
    ]

abbrev or_else : Option ShadowValue → Option ShadowValue → Option ShadowValue
or_else None other = other
or_else (Some value) other = Some value

or_else_first : (b : Bool) (value : ShadowValue) (o other : Option ShadowValue) → cond b (Some value) (or_else o other) ≡ or_else (cond b (Some value) o) other
or_else_first true value o other = refl
or_else_first false value o other = refl

get_restored : (m : Shadow) (vs : List (ShadowKey × ShadowValue)) → finite.len m + length vs ≤ MAX_VARIABLES → (q : ShadowKey)
    → finite.get (restored m vs) q ≡ or_else (finite.find key_cmp q vs) (finite.get m q)
get_restored m [] few q = refl
get_restored m (v ∷ vs) few q =
    let before = few_restored m vs in
    ap (λ b. finite.get (cond b (finite.insert (restored m vs) v.0 v.1) (restored m vs)) q) (lt-ltb _ _ (omega arith))
    ∙ finite.get-insert key_total (restored m vs) v.0 v.1 q
    ∙ ap (cond (eq_by_cmp key_cmp q v.0) (Some v.1)) (get_restored m vs (omega arith) q)
    ∙ or_else_first (eq_by_cmp key_cmp q v.0) v.1 (finite.find key_cmp q vs) (finite.get m q)

one_of_two : (b : Bool) (o : Option ShadowValue) → or_else (cond b o None) (cond (not b) o None) ≡ o
one_of_two true None = refl
one_of_two true (Some x) = refl
one_of_two false o = refl

alike : (keep : ShadowKey → Bool) (q x : ShadowKey) → key_cmp q x ≡ Equal → keep x ≡ keep q
alike keep q x e = ap keep (sym (key_antisymmetric q x e))

abbrev pub of_id : ℕ → ShadowKey → Bool
of_id id key = key.id == id

-- the variables of an id and the others are all
pub count_parted : (m : Shadow) (id : ℕ) → finite.len (finite.retain_keys m (λ (key : ShadowKey). not (key.id == id))) + length (variable_rows id (finite.entries m)) ≡ finite.len m
count_parted m id =
    let es = finite.entries m in
    let keep = λ (key : ShadowKey). not (key.id == id) in
    let kept : finite.len (finite.retain_keys m keep) ≡ length (where_key key_cmp keep es) =
    ap (λ m. finite.len (finite.retain_keys m keep)) (sym (as_entries m)) ∙ ap finite.len (sym (where_as_map keep es (sorted_entries m)))
    ∙ len_as_map (where_key key_cmp keep es) (sorted_where keep es (sorted_entries m)) in
    let both : length (where_key key_cmp (of_id id) es) + length (where_key key_cmp keep es) ≡ length es =
    length-filter_both (λ (v : ShadowKey × ShadowValue). v.0.id == id) (λ (v : ShadowKey × ShadowValue). not (v.0.id == id)) (λ _. refl) es in
    let rows : length (variable_rows id es) ≡ length (where_key key_cmp (of_id id) es) = length-map (where_key key_cmp (of_id id) es) variable_row in
    let whole : finite.len m ≡ length es = finite.len-entries m in
    omega arith

pub undone_free_all : (world : World) (id : ℕ) → finite.len world.shadow ≤ MAX_VARIABLES → undone (without_id world id) (rows_of_free_all world id) ≡ world
undone_free_all world id few =
    let m = world.shadow in
    let keep = λ (key : ShadowKey). not (key.id == id) in
    let gone = where_key key_cmp (of_id id) (finite.entries m) in
    let rows : length (variable_rows id (finite.entries m)) ≡ length gone = length-map gone variable_row in
    let parted = count_parted m id in
    let room : finite.len (finite.retain_keys m keep) + length gone ≤ MAX_VARIABLES = omega arith in
    undone_variables (without_id world id) gone
    ∙ ap (λ s. record world { shadow = s }) (finite.same_map key_total key_antisymmetric _ _ (λ q.
    get_restored (finite.retain_keys m keep) gone room q
    ∙ ap (λ o. or_else o (finite.get (finite.retain_keys m keep) q)) (find-where_key key_cmp (of_id id) q (alike (of_id id) q) (finite.entries m) ∙ ap (λ o. cond (q.id == id) o None) (sym (finite.get-entries m q)))
    ∙ ap (or_else (cond (q.id == id) (finite.get m q) None)) (finite.get-retain_keys m keep q (alike keep q))
    ∙ one_of_two (q.id == id) (finite.get m q)))

abbrev pub lone : ℕ → List (ℕ × ℕ) → List Installed
lone patch values = record { patch = patch; values = values } ∷ []

pub change_last : (patch : ℕ) (change : List (ℕ × ℕ) → List (ℕ × ℕ)) (patches : List Installed) (values : List (ℕ × ℕ)) → list_any (λ (i : Installed). i.patch == patch) patches ≡ false
    → change_states patch change (patches ++ lone patch values) ≡ patches ++ lone patch (change values)
change_last patch change [] values fresh = ap (changed patch change (record { patch = patch; values = values }) []) (eq-eqb patch patch refl)
change_last patch change (first ∷ newer) values fresh =
    let parts = or_parts (first.patch == patch) (list_any (λ (i : Installed). i.patch == patch) newer) fresh in
    ap (changed patch change first (newer ++ lone patch values)) parts.0 ∙ ap (first ∷◌) (change_last patch change newer values parts.1)

out_last : (patch : ℕ) (patches : List Installed) (values : List (ℕ × ℕ)) → list_any (λ (i : Installed). i.patch == patch) patches ≡ false → taken_out patch (patches ++ lone patch values) ≡ patches
out_last patch [] values fresh = ap (λ b. cond b [] (record { patch = patch; values = values } ∷ [])) (eq-eqb patch patch refl)
out_last patch (first ∷ newer) values fresh =
    let parts = or_parts (first.patch == patch) (list_any (λ (i : Installed). i.patch == patch) newer) fresh in
    ap (λ b. cond b (newer ++ lone patch values) (first ∷ taken_out patch (newer ++ lone patch values))) parts.0 ∙ ap (first ∷◌) (out_last patch newer values parts.1)

pub last_states : (patch : ℕ) (patches : List Installed) (values : List (ℕ × ℕ)) → list_any (λ (i : Installed). i.patch == patch) patches ≡ false → states_of patch (patches ++ lone patch values) ≡ values
last_states patch [] values fresh = ap (λ b. cond b values []) (eq-eqb patch patch refl)
last_states patch (first ∷ newer) values fresh =
    let parts = or_parts (first.patch == patch) (list_any (λ (i : Installed). i.patch == patch) newer) fresh in
    ap (λ b. cond b first.values (states_of patch (newer ++ lone patch values))) parts.0 ∙ last_states patch newer values parts.1

-- a patch that stands last without states is taken out again
bare_last : (patch : ℕ) (patches : List Installed) → list_any (λ (i : Installed). i.patch == patch) patches ≡ false → put_patch patch None (patches ++ lone patch []) ≡ patches
bare_last patch patches fresh =
    let whole = patches ++ lone patch [] in
    ap (λ states. cond (is_empty states) (taken_out patch whole) whole) (last_states patch patches [] fresh) ∙ out_last patch patches [] fresh

pub undone_new_states : (world : World) (patch : ℕ) (patches : List Installed) (values : List (ℕ × ℕ)) (ids : List ℕ) → list_any (λ (i : Installed). i.patch == patch) patches ≡ false
    → undone (record world { installed = patches ++ lone patch values }) (map (λ id. StateRow patch id None) ids) ≡ record world { installed = patches ++ lone patch (left_of ids values) }
undone_new_states world patch patches values [] fresh = refl
undone_new_states world patch patches values (id ∷ ids) fresh =
    ap (λ w. put_back w (StateRow patch id None)) (undone_new_states world patch patches values ids fresh)
    ∙ ap (λ p. record world { installed = p }) (change_last patch (put_state id None) patches (left_of ids values) fresh)

pub undone_add : (world : World) (patch : ℕ) (ids : List ℕ) → list_any (λ (i : Installed). i.patch == patch) world.installed ≡ false → undone (with_patch world patch ids) (rows_of_add patch ids) ≡ world
undone_add world patch ids fresh =
    ap (λ w. put_back w (InstalledPatch patch None)) (undone_new_states world patch world.installed (new_states ids) ids fresh)
    ∙ ap (λ values. record world { installed = put_patch patch None (world.installed ++ lone patch values) }) (none_left ids)
    ∙ ap (λ p. record world { installed = p }) (bare_last patch world.installed fresh)

pub one_shorter : (patch : ℕ) (patches : List Installed) (i : ℕ) → FirstAt (is_patch patch) patches i → suc (length (taken_out patch patches)) ≡ length patches
one_shorter patch [] i h = absurd h
one_shorter patch (first ∷ newer) zero h = ap (λ b. suc (length (cond b newer (first ∷ taken_out patch newer)))) h
one_shorter patch (first ∷ newer) (suc i) h =
    ap (λ b. suc (length (cond b newer (first ∷ taken_out patch newer)))) h.0 ∙ ap suc (one_shorter patch newer i h.1)

-- a patch that was taken out is put in its place again, without states
pub put_again : (patch : ℕ) (patches : List Installed) (i : ℕ) → FirstAt (is_patch patch) patches i
    → insert (taken_out patch patches) i (record { patch = patch; values = [] }) ≡ change_states patch (λ _. []) patches
put_again patch [] i h = absurd h
put_again patch (first ∷ newer) zero h =
    ap (λ b. insert (cond b newer (first ∷ taken_out patch newer)) 0 (record { patch = patch; values = [] })) h
    ∙ ap (λ p. record { patch = p; values = [] } ∷ newer) (sym (eqb-true first.patch patch h))
    ∙ sym (ap (changed patch (λ _. []) first newer) h)
put_again patch (first ∷ newer) (suc i) h =
    ap (λ b. insert (cond b newer (first ∷ taken_out patch newer)) (suc i) (record { patch = patch; values = [] })) h.0
    ∙ ap (first ∷◌) (put_again patch newer i h.1)
    ∙ sym (ap (changed patch (λ _. []) first newer) h.0)

pub undone_states : (world : World) (patch : ℕ) (patches : List Installed) (states values : List (ℕ × ℕ)) → length values + length states ≤ MAX_STATES
    → undone (record world { installed = change_states patch (λ _. values) patches }) (map (state_row patch) (reverse states)) ≡ record world { installed = change_states patch (λ _. values ++ states) patches }
undone_states world patch patches [] values few = ap (λ v. record world { installed = change_states patch (λ _. v) patches }) (sym (append-nil values))
undone_states world patch patches (state ∷ states) values few =
    let start = record world { installed = change_states patch (λ _. values) patches } in
    let longer : length (values ++ state ∷ []) ≡ length values + 1 = length-append values (state ∷ []) in
    ap (λ rows. undone start rows) (ap (map (state_row patch)) (reverse-append (state ∷ []) states) ∙ map-append (state_row patch) (reverse states) (state ∷ []))
    ∙ undone-append start (map (state_row patch) (reverse states)) (state_row patch state ∷ [])
    ∙ ap (λ p. undone (record world { installed = p }) (map (state_row patch) (reverse states)))
    (change_twice patch (λ _. values) (put_state state.0 (Some state.1)) patches
    ∙ ap (λ b. change_states patch (λ _. cond b (values ++ state ∷ []) values) patches) (lt-ltb _ _ (omega arith)))
    ∙ undone_states world patch patches states (values ++ state ∷ []) (omega arith)
    ∙ ap (λ v. record world { installed = change_states patch (λ _. v) patches }) (append_assoc values (state ∷ []) states)

pub undone_drop : (world : World) (patch i : ℕ) → FirstAt (is_patch patch) world.installed i → length world.installed ≤ MAX_PATCHES → length (states_of patch world.installed) ≤ MAX_STATES
    → undone (without_patch world patch) (rows_of_drop world patch) ≡ world
undone_drop world patch i h few_patches few_states =
    let patches = world.installed in
    let states = states_of patch patches in
    let shorter = one_shorter patch patches i h in
    let put = put_back (without_patch world patch) (InstalledPatch patch (Some i)) in
    let again : put ≡ record world { installed = change_states patch (λ _. []) patches } =
    ap (λ b. record world { installed = cond b (insert (taken_out patch patches) i (record { patch = patch; values = [] })) (taken_out patch patches) }) (lt-ltb _ _ (omega arith))
    ∙ ap (λ p. record world { installed = p }) (put_again patch patches i h) in
    ap (λ place. undone (without_patch world patch) (rows_if_dropped patch states place)) (place_at patch patches i h)
    ∙ undone-append (without_patch world patch) (map (state_row patch) (reverse states)) (InstalledPatch patch (Some i) ∷ [])
    ∙ ap (λ w. undone w (map (state_row patch) (reverse states))) again
    ∙ undone_states world patch patches states [] (omega arith)
    ∙ ap (λ p. record world { installed = p }) (change_same patch (λ _. states) patches refl)
