-- Records that tell what changed, whatever other rows they are among.
use Rattle.std.proofs.Common.{◌≡◌, ℕ, ◌<◌, Bool, true, false, not, ◌&&◌, ◌||◌, get_or, List, [], ◌∷◌, ◌++◌, length, Option, Some, None, refl, sym, ap, ◌∙◌}
use Rattle.std.specs.Bool.{beq}
use Rattle.std.specs.List.{All}
use Rattle.std.specs.Prelude.{is_some, is_none, slice_set, slice_index_or}
use Rattle.std.specs.Coded.{Coded}
use base.Stored.{Gv, gnil, gnum, gcons}
use Rattle.std.proofs.lemmas.Bool.{and_parts, and_from, eqb-true, eq-eqb}
use Rattle.std.proofs.lemmas.List.{get_or-set_same, length-set}
use Rattle.std.proofs.lemmas.List.Elements.{All-head, All-tail}
use Rattle.klp_types.specs.declared.record.Record.{Record}
use Rattle.klp_types.specs.declared.record.Record.TheVariants.{StackEntry, HookFlag, LoadedFlag, Moving, NothingMoving, PinnedFlag}
use Rattle.klp_types.specs.declared.version.Entry.{Entry}
use Rattle.klp_types.specs.declared.version.Transition.{Transition}
use Rattle.klp_world.specs.Coded.{world_code}
use Rattle.klp_world.specs.Undo as of_world
use Rattle.klp_tasks.specs.Changes as of_tasks
use Rattle.klp_stack.specs.Stack.{entries_at, has_entry}
use Rattle.klp_sites.specs.Table.{SiteTable}
use Rattle.klp_sites.specs.Undo as of_sites
use Rattle.klp_sites.specs.Undo.{is_of_sites}
use Rattle.klp_sites.proofs.ExactLemmas.{telling as sites_telling, effective_both as sites_both}
use Rattle.klp_manager_state.specs.Codes.{is_same_code, is_same, flags_code, stacks_code, tasks_code, moving_code}
use Rattle.klp_manager_state.specs.Rows.{Rows, row_of_moving, put_back, undone, are_same, has_effect, each_has_effect, rows_have_effects, have_effects}

-- what is the same by its code is the same

same_codes : (one other : Gv) → is_same_code one other ≡ true → one ≡ other
same_codes gnil gnil is = refl
same_codes (gnum m) (gnum n) is = ap gnum (eqb-true m n is)
same_codes (gcons a b) (gcons c d) is =
    let parts = and_parts (is_same_code a c) (is_same_code b d) is in
    λ i. gcons (same_codes a c parts.0 i) (same_codes b d parts.1 i)
same_codes one other is = let no : ⊥ = cc in absurd no

code_itself : (code : Gv) → is_same_code code code ≡ true
code_itself gnil = refl
code_itself (gnum n) = eq-eqb n n refl
code_itself (gcons a b) = and_from (is_same_code a a) (is_same_code b b) (code_itself a) (code_itself b)

same_if : {A : Type 0} (coded : Coded A) (one other : A) → is_same coded one other ≡ true → one ≡ other
unfolding is_same
same_if coded one other is = coded.inj one other (same_codes (coded.code one) (coded.code other) is)

same_itself : {A : Type 0} (coded : Coded A) (one : A) → is_same coded one one ≡ true
unfolding is_same
same_itself coded one = code_itself (coded.code one)

-- the same rows
record SameRows (rows other : Rows) : Type 0 where
  world : rows.world ≡ other.world
  loaded : rows.sites.loaded ≡ other.sites.loaded
  stacks : rows.sites.stacks ≡ other.sites.stacks
  tasks : rows.tasks ≡ other.tasks
  moving : rows.moving ≡ other.moving
  pinned : rows.pinned ≡ other.pinned

same_rows : (rows other : Rows) → are_same rows other ≡ true → SameRows rows other
unfolding are_same
same_rows rows other is =
    let one = and_parts (is_same world_code rows.world other.world) _ is in
    let two = and_parts (is_same flags_code rows.sites.loaded other.sites.loaded) _ one.1 in
    let three = and_parts (is_same stacks_code rows.sites.stacks other.sites.stacks) _ two.1 in
    let four = and_parts (is_same tasks_code rows.tasks other.tasks) _ three.1 in
    let five = and_parts (is_same moving_code rows.moving other.moving) _ four.1 in
    record {
      world = same_if world_code rows.world other.world one.0;
      loaded = same_if flags_code rows.sites.loaded other.sites.loaded two.0;
      stacks = same_if stacks_code rows.sites.stacks other.sites.stacks three.0;
      tasks = same_if tasks_code rows.tasks other.tasks four.0;
      moving = same_if moving_code rows.moving other.moving five.0;
      pinned = same_if flags_code rows.pinned other.pinned five.1;
    }

rows_itself : (rows : Rows) → are_same rows rows ≡ true
unfolding are_same
rows_itself rows =
    and_from _ _ (same_itself world_code rows.world)
    (and_from _ _ (same_itself flags_code rows.sites.loaded)
    (and_from _ _ (same_itself stacks_code rows.sites.stacks)
    (and_from _ _ (same_itself tasks_code rows.tasks) (and_from _ _ (same_itself moving_code rows.moving) (same_itself flags_code rows.pinned)))))

unlike : (rows other : Rows) → (SameRows rows other → ⊥) → are_same rows other ≡ false
unlike rows other differ = elim (are_same rows other) as (λ b. are_same rows other ≡ b → b ≡ false) [ true ↦ λ is. absurd (differ (same_rows rows other is)) | false ↦ λ is. refl ] refl

either : (b : Bool) → (b || true) ≡ true
either true = refl
either false = refl

-- a record that changes the rows tells one that changed
effective_if : (rows : Rows) (row : Record) → (SameRows (put_back rows row) rows → ⊥) → has_effect rows row ≡ true
effective_if rows row differ = ap (λ b. is_some (of_sites.hook_of row) || not b) (unlike (put_back rows row) rows differ) ∙ either (is_some (of_sites.hook_of row))

-- and one that tells a row that changed changes the rows
pub changed_if : (rows : Rows) (row : Record) → has_effect rows row ≡ true → of_sites.hook_of row ≡ None → put_back rows row ≡ rows → ⊥
changed_if rows row effective plain same =
    let not_same : has_effect rows row ≡ false =
    ap (λ hook. is_some hook || not (are_same (put_back rows row) rows)) plain ∙ ap (λ (r : Rows). not (are_same r rows)) same ∙ ap not (rows_itself rows) in
    cc

-- records one behind another

pub undone-append : (rows : Rows) (older newer : List Record) → undone rows (older ++ newer) ≡ undone (undone rows newer) older
undone-append rows [] newer = refl
undone-append rows (row ∷ older) newer = ap (λ r. put_back r row) (undone-append rows older newer)

-- the sites that records give are those that they give by themselves, and so are the world and the tasks
pub sites_of : (rows : Rows) (records : List Record) → (undone rows records).sites ≡ of_sites.undone rows.sites records
sites_of rows [] = refl
sites_of rows (row ∷ newer) = ap (λ t. of_sites.put_back t row) (sites_of rows newer)

world_of : (rows : Rows) (records : List Record) → (undone rows records).world ≡ of_world.undone rows.world records
world_of rows [] = refl
world_of rows (row ∷ newer) = ap (λ w. of_world.put_back w row) (world_of rows newer)

tasks_of : (rows : Rows) (records : List Record) → (undone rows records).tasks ≡ of_tasks.undone rows.tasks records
tasks_of rows [] = refl
tasks_of rows (row ∷ newer) = ap (λ t. of_tasks.put_back t row) (tasks_of rows newer)

each_both : (rows : Rows) (older newer : List Record) → each_has_effect rows newer ≡ true → each_has_effect rows (older ++ newer) ≡ each_has_effect (undone rows newer) older
each_both rows [] newer effective = effective
each_both rows (row ∷ older) newer effective =
    ap (λ r. has_effect r row && each_has_effect rows (older ++ newer)) (undone-append rows older newer) ∙ ap (λ b. has_effect (undone (undone rows newer) older) row && b) (each_both rows older newer effective)

-- what it is to tell changes
pub telling : (rows : Rows) (records : List Record) → have_effects rows records ≡ (of_sites.have_effects rows.sites records && each_has_effect rows records)
unfolding rows_have_effects
telling rows [] = refl
telling rows (row ∷ newer) = refl

-- where the newer ones tell changes, the older ones behind which they stand tell what they told
pub effective_both : (rows : Rows) (older newer : List Record) → have_effects rows newer ≡ true → have_effects rows (older ++ newer) ≡ have_effects (undone rows newer) older
effective_both rows older newer effective =
    let parts = and_parts (of_sites.have_effects rows.sites newer) (each_has_effect rows newer) (sym (telling rows newer) ∙ effective) in
    telling rows (older ++ newer)
    ∙ ap (λ b. b && each_has_effect rows (older ++ newer)) (sites_both rows.sites older newer parts.0 ∙ ap (λ t. of_sites.have_effects t older) (sym (sites_of rows newer)))
    ∙ ap (λ b. of_sites.have_effects (undone rows newer).sites older && b) (each_both rows older newer parts.1)
    ∙ sym (telling (undone rows newer) older)

pub effective_by : (rows : Rows) (records : List Record) → of_sites.have_effects rows.sites records ≡ true → each_has_effect rows records ≡ true → have_effects rows records ≡ true
effective_by rows records of_those each = telling rows records ∙ and_from (of_sites.have_effects rows.sites records) (each_has_effect rows records) of_those each

-- what each kind of change tells

pub world_effective : (rows : Rows) (records : List Record) → of_world.HaveEffects rows.world records → each_has_effect rows records ≡ true
world_effective rows [] effective = refl
world_effective rows (row ∷ newer) effective =
    let before = undone rows newer in
    let is = world_of rows newer in
    and_from (has_effect before row) (each_has_effect rows newer)
    (effective_if before row (λ same. effective.0 (ap (λ w. of_world.put_back w row) (sym is) ∙ same.world ∙ is)))
    (world_effective rows newer effective.1)

pub tasks_effective : (rows : Rows) (records : List Record) → of_tasks.HaveEffects rows.tasks records → each_has_effect rows records ≡ true
tasks_effective rows [] effective = refl
tasks_effective rows (row ∷ newer) effective =
    let before = undone rows newer in
    let is = tasks_of rows newer in
    and_from (has_effect before row) (each_has_effect rows newer)
    (effective_if before row (λ same. effective.0 (ap (λ t. of_tasks.put_back t row) (sym is) ∙ same.tasks ∙ is)))
    (tasks_effective rows newer effective.1)

alike : (b : Bool) → not (beq b b) ≡ true → ⊥
alike true other = cc
alike false other = cc

-- the entry of a patch comes or goes, so the stacks change
exact_has_effect : (rows : Rows) (row : Record) (hook : Option (ℕ × Bool)) → is_of_sites row ≡ true → of_sites.is_exact rows.sites row hook ≡ true → has_effect rows row ≡ true
exact_has_effect rows (StackEntry site patch was) hook is exact =
    let row = StackEntry site patch was in
    let has = λ (stacks : List (List Entry)). has_entry patch (entries_at stacks site) in
    let turned = (and_parts (not (beq (has rows.sites.stacks) (has (of_sites.put_back rows.sites row).stacks))) _ (and_parts (of_sites.is_due rows.sites row) _ exact).1).0 in
    effective_if rows row (λ same. alike (has rows.sites.stacks) (ap (λ stacks. not (beq (has rows.sites.stacks) (has stacks))) (sym same.stacks) ∙ turned))
exact_has_effect rows (HookFlag site was) hook is exact = refl
exact_has_effect rows other hook is exact = let no : ⊥ = cc in absurd no

each_exact : (rows : Rows) (records : List Record) → All (λ row. is_of_sites row ≡ true) records → of_sites.are_exact rows.sites records ≡ true → each_has_effect rows records ≡ true
each_exact rows [] all exact = refl
each_exact rows (row ∷ newer) all exact =
    let before = undone rows newer in
    let parts = and_parts (of_sites.is_exact (of_sites.undone rows.sites newer) row (of_sites.first_hook newer)) (of_sites.are_exact rows.sites newer) exact in
    and_from (has_effect before row) (each_has_effect rows newer)
    (exact_has_effect before row (of_sites.first_hook newer) (All-head (λ row. is_of_sites row ≡ true) row newer all) (ap (λ t. of_sites.is_exact t row (of_sites.first_hook newer)) (sites_of rows newer) ∙ parts.0))
    (each_exact rows newer (All-tail (λ row. is_of_sites row ≡ true) row newer all) parts.1)

pub sites_effective : (rows : Rows) (records : List Record) → All (λ row. is_of_sites row ≡ true) records → of_sites.have_effects rows.sites records ≡ true → have_effects rows records ≡ true
sites_effective rows records all effective =
    effective_by rows records effective
    (each_exact rows records all (and_parts (of_sites.are_exact rows.sites records) (is_none (of_sites.first_hook records)) (sym (sites_telling rows.sites records) ∙ effective)).0)

one_effective : (rows : Rows) (row : Record) → of_sites.have_effects rows.sites (row ∷ []) ≡ true → has_effect rows row ≡ true → have_effects rows (row ∷ []) ≡ true
one_effective rows row of_those effective = effective_by rows (row ∷ []) of_those (and_from (has_effect rows row) true effective refl)

-- an object is no longer what its flag was
pub loaded_effective : (rows : Rows) (before : SiteTable) (object : ℕ) (was : Bool) → of_sites.put_back rows.sites (LoadedFlag object was) ≡ before → was ≡ slice_index_or before.loaded object false
    → of_sites.have_effects rows.sites (LoadedFlag object was ∷ []) ≡ true → have_effects rows (LoadedFlag object was ∷ []) ≡ true
loaded_effective rows before object was undo is effective =
    let row = LoadedFlag object was in
    let exact = (and_parts (of_sites.are_exact rows.sites (row ∷ [])) true (sym (sites_telling rows.sites (row ∷ [])) ∙ effective)).0 in
    let other = (and_parts (not (beq (slice_index_or rows.sites.loaded object false) was)) true exact).0 in
    one_effective rows row effective
    (effective_if rows row (λ same.
    let own : slice_index_or rows.sites.loaded object false ≡ was = ap (λ flags. slice_index_or flags object false) (sym same.loaded ∙ ap (λ (t : SiteTable). t.loaded) undo) ∙ sym is in
    alike was (ap (λ b. not (beq b was)) (sym own) ∙ other)))

-- something else moves
pub moving_effective : (rows : Rows) (before : Option Transition) → (before ≡ rows.moving → ⊥) → have_effects rows (row_of_moving before ∷ []) ≡ true
moving_effective rows None differ = one_effective rows NothingMoving (sites_telling rows.sites (NothingMoving ∷ [])) (effective_if rows NothingMoving (λ same. differ same.moving))
moving_effective rows (Some was) differ = one_effective rows (Moving was) (sites_telling rows.sites (Moving was ∷ [])) (effective_if rows (Moving was) (λ same. differ same.moving))

-- a patch is pinned that wasn't
pub pinned_effective : (rows : Rows) (flags : List Bool) (patch : ℕ) → patch < length flags → rows.pinned ≡ slice_set flags patch true → have_effects rows (PinnedFlag patch false ∷ []) ≡ true
pinned_effective rows flags patch there is =
    one_effective rows (PinnedFlag patch false) (sites_telling rows.sites (PinnedFlag patch false ∷ []))
    (effective_if rows (PinnedFlag patch false) (λ same.
    let long : patch < length rows.pinned = rw (is, length-set flags patch true) there in
    let off : get_or (slice_set rows.pinned patch false) patch false ≡ false = get_or-set_same rows.pinned patch false false long in
    let on : get_or rows.pinned patch false ≡ true = ap (λ fs. get_or fs patch false) is ∙ get_or-set_same flags patch true false there in
    let no : ⊥ = cc (sym off ∙ ap (λ fs. get_or fs patch false) same.pinned ∙ on) in
    no))
