-- Records that tell what changed, one list behind another.
use Rattle.std.proofs.Common.{◌≡◌, ℕ, ◌<◌, Bool, true, false, not, ◌&&◌, cond, eqb, get_or, set, List, [], ◌∷◌, ◌++◌, length, Option, Some, None, refl, sym, ap, subst, ◌∙◌, append-nil}
use Rattle.std.specs.Bool.{beq}
use Rattle.std.specs.Prelude.{is_none}
use Rattle.std.proofs.lemmas.Bool.{and_parts, and_from, eq-eqb}
use Rattle.std.proofs.lemmas.List.{get_or-set_same}
use Rattle.klp_types.specs.declared.record.Place.{Place}
use Rattle.klp_types.specs.declared.record.Record.{Record}
use Rattle.klp_types.specs.declared.record.Record.TheVariants.{StackEntry, HookFlag, LoadedFlag}
use Rattle.klp_types.specs.declared.version.Entry.{Entry}
use Rattle.klp_types.specs.Entries.{is_empty}
use Rattle.klp_types.specs.Records.{RecordList}
use Rattle.klp_stack.specs.Stack.{entries_at, has_entry, entries_of_others, place_of}
use Rattle.klp_sites.specs.Table.{SiteTable, is_stacked, is_hooked_at}
use Rattle.klp_stack.proofs.ChangeLemmas.{site_there}
use Rattle.klp_stack.proofs.StackLemmas.{has_place}
use Rattle.klp_sites.specs.Changes.{Changes, pushed, taken, rows_of_push, rows_of_taken, rows_of_take}
use Rattle.klp_sites.specs.Undo.{put_back, undone, is_due, are_due, first_hook, is_its_hook, is_exact, are_exact, has_effect, have_effects}
use Rattle.klp_sites.proofs.StepLemmas.{Entries, hooked_now, hooked_with}

-- the newer records first, and then the older ones
pub undone_both : (table : SiteTable) (older newer : List Record) → undone table (older ++ newer) ≡ undone (undone table newer) older
undone_both table [] newer = refl
undone_both table (row ∷ older) newer = ap (λ t. put_back t row) (undone_both table older newer)

first_of_both : (older newer : List Record) → first_hook newer ≡ None → first_hook (older ++ newer) ≡ first_hook older
first_of_both [] newer none = none
first_of_both (row ∷ older) newer none = refl

exact_both : (table : SiteTable) (older newer : List Record) → first_hook newer ≡ None → are_exact table newer ≡ true → are_exact table (older ++ newer) ≡ are_exact (undone table newer) older
exact_both table [] newer none newer_do = newer_do
exact_both table (row ∷ older) newer none newer_do =
    ap (λ t. is_exact t row (first_hook (older ++ newer)) && are_exact table (older ++ newer)) (undone_both table older newer)
    ∙ ap (λ h. is_exact (undone (undone table newer) older) row h && are_exact table (older ++ newer)) (first_of_both older newer none)
    ∙ ap (λ b. is_exact (undone (undone table newer) older) row (first_hook older) && b) (exact_both table older newer none newer_do)

no_hook : (hook : Option (ℕ × Bool)) → is_none hook ≡ true → hook ≡ None
no_hook None none = refl
no_hook (Some hook) none = cc

-- what it is to tell changes
pub telling : (table : SiteTable) (rows : List Record) → have_effects table rows ≡ (are_exact table rows && is_none (first_hook rows))
unfolding has_effect
telling table [] = refl
telling table (row ∷ newer) = refl

-- where the newer ones tell changes, the older ones behind which they stand tell what they told
pub effective_both : (table : SiteTable) (older newer : List Record) → have_effects table newer ≡ true → have_effects table (older ++ newer) ≡ have_effects (undone table newer) older
effective_both table older newer effective =
    let parts = and_parts (are_exact table newer) (is_none (first_hook newer)) (sym (telling table newer) ∙ effective) in
    let none = no_hook (first_hook newer) parts.1 in
    telling table (older ++ newer)
    ∙ ap (λ b. b && is_none (first_hook (older ++ newer))) (exact_both table older newer none parts.0)
    ∙ ap (λ h. are_exact (undone table newer) older && is_none h) (first_of_both older newer none)
    ∙ sym (telling (undone table newer) older)

exact_due : (table : SiteTable) (row : Record) (hook : Option (ℕ × Bool)) → is_exact table row hook ≡ true → is_due table row ≡ true
exact_due table (StackEntry site patch was) hook effective = (and_parts (is_due table (StackEntry site patch was)) _ effective).0
exact_due table other hook effective = refl

are_exact_due : (table : SiteTable) (rows : List Record) → are_exact table rows ≡ true → are_due table rows ≡ true
are_exact_due table [] effective = refl
are_exact_due table (row ∷ newer) effective =
    let parts = and_parts (is_exact (undone table newer) row (first_hook newer)) (are_exact table newer) effective in
    and_from (is_due (undone table newer) row) (are_due table newer) (exact_due (undone table newer) row (first_hook newer) parts.0) (are_exact_due table newer parts.1)

-- records that tell changes can be put back
pub effective_due : (table : SiteTable) (rows : List Record) → have_effects table rows ≡ true → are_due table rows ≡ true
effective_due table rows effective = are_exact_due table rows (and_parts (are_exact table rows) (is_none (first_hook rows)) (sym (telling table rows) ∙ effective)).0

-- the entry of a patch comes to the stack of a site or leaves it

differ : (now back : Bool) → back ≡ not now → not (beq now back) ≡ true
differ true back is = ap (λ b. not (beq true b)) is
differ false back is = ap (λ b. not (beq false b)) is

alike : (now back : Bool) → now ≡ back → beq now back ≡ true
alike now true is = ap (λ b. beq b true) is
alike now false is = ap (λ b. beq b false) is

module _ (before after : SiteTable) (site patch : ℕ) (was : Option Place) (undo : put_back after (StackEntry site patch was) ≡ before)
    (due : is_due after (StackEntry site patch was) ≡ true) (turns : has_entry patch (entries_at before.stacks site) ≡ not (has_entry patch (entries_at after.stacks site))) where
  entry_effective : (hook : Option (ℕ × Bool)) → is_its_hook site (is_hooked_at after.stacks site) (is_hooked_at before.stacks site) hook ≡ true → is_exact after (StackEntry site patch was) hook ≡ true
  entry_effective hook own =
      and_from (is_due after (StackEntry site patch was)) _ due (
      and_from (not (beq (has_entry patch (entries_at after.stacks site)) (has_entry patch (entries_at (put_back after (StackEntry site patch was)).stacks site)))) _
      (ap (λ (t : SiteTable). not (beq (has_entry patch (entries_at after.stacks site)) (has_entry patch (entries_at t.stacks site)))) undo ∙ differ _ _ turns)
      (ap (λ (t : SiteTable). is_its_hook site (is_hooked_at after.stacks site) (is_hooked_at t.stacks site) hook) undo ∙ own)
      )

  -- the site stays hooked
  effective_alone : is_hooked_at after.stacks site ≡ is_hooked_at before.stacks site → have_effects after (StackEntry site patch was ∷ []) ≡ true
  effective_alone same = telling after (StackEntry site patch was ∷ []) ∙ rw (entry_effective None (alike _ _ same)) refl

  -- it is hooked, or unhooked
  effective_with : (flag : Bool) → is_hooked_at before.stacks site ≡ flag → is_hooked_at after.stacks site ≡ not flag → have_effects after (StackEntry site patch was ∷ HookFlag site flag ∷ []) ≡ true
  effective_with flag is now =
      telling after (StackEntry site patch was ∷ HookFlag site flag ∷ [])
      ∙ rw (entry_effective (Some (site, flag))
      (and_from (eqb site site) _ (eq-eqb site site refl)
      (and_from (not (beq (is_hooked_at after.stacks site) (is_hooked_at before.stacks site))) _ (differ _ _ (is ∙ turn flag ∙ ap not (sym now))) (alike _ _ (sym is))))) refl
    where
      turn : (b : Bool) → b ≡ not (not b)
      turn true = refl
      turn false = refl

-- what a push notes
pub push_effective : (before after : SiteTable) (l0 l1 : RecordList) (site : ℕ) (entry : Entry) → site < length before.stacks → has_entry entry.patch (entries_at before.stacks site) ≡ false
    → Changes before after l0 l1 (pushed before site entry) (rows_of_push before site entry) → have_effects after (rows_of_push before site entry) ≡ true
push_effective before after l0 l1 site entry there fresh change =
    let older = entries_at before.stacks site in
    let stacks = ap (λ (t : SiteTable). t.stacks) change.table in
    let hooked = hooked_now before.stacks site entry older after.stacks stacks there in
    let has : has_entry entry.patch (entries_at after.stacks site) ≡ true =
    ap (λ s. has_entry entry.patch (entries_at s site)) stacks ∙ ap (has_entry entry.patch) (get_or-set_same before.stacks site (entry ∷ older) [] there) ∙ own_entry entry older
    in
    let turns = fresh ∙ ap not (sym has) in
    elim (is_empty older) as (λ b. is_empty older ≡ b → undone after (StackEntry site entry.patch None ∷ cond b (HookFlag site false ∷ []) []) ≡ before
    → have_effects after (StackEntry site entry.patch None ∷ cond b (HookFlag site false ∷ []) []) ≡ true) [
      | true ↦ λ none undo. effective_with before after site entry.patch None undo refl turns false (ap not none) hooked
      | false ↦ λ some undo. effective_alone before after site entry.patch None undo refl turns (hooked ∙ sym (ap not some))
    ] refl change.undo
  where
    own_entry : (e : Entry) (rest : List Entry) → has_entry e.patch (e ∷ rest) ≡ true
    own_entry e rest = rw (eq-eqb e.patch e.patch refl) refl

none_of_others : (patch : ℕ) (entries : List Entry) → has_entry patch (entries_of_others patch entries) ≡ false
none_of_others patch [] = refl
none_of_others patch (entry ∷ older) = elim (eqb entry.patch patch) as (λ b. eqb entry.patch patch ≡ b → has_entry patch (cond (not b) (entry ∷ entries_of_others patch older) (entries_of_others patch older)) ≡ false) [
  | true ↦ λ is. none_of_others patch older
  | false ↦ λ is. rw (is, none_of_others patch older) refl
] refl

-- a take notes nothing where the patch has no entry
pub none_logged : (before after : SiteTable) (log : RecordList) (site patch : ℕ) → None ≡ place_of patch (entries_at before.stacks site) → after ≡ taken before site patch → after ≡ before
    → Changes before after log log (taken before site patch) (rows_of_take before site patch)
none_logged before after log site patch none is same =
    subst (λ w. Changes before after log log (taken before site patch) (rows_of_taken site patch w (is_empty (entries_of_others patch (entries_at before.stacks site))))) none
    (record { table = is; records = ap (λ rows. record log { logged = rows }) (sym (append-nil log.logged)); undo = same; due = refl })

-- what a take notes
pub take_effective : (before after : SiteTable) (l0 l1 : RecordList) (site patch : ℕ) → Changes before after l0 l1 (taken before site patch) (rows_of_take before site patch)
    → have_effects after (rows_of_take before site patch) ≡ true
take_effective before after l0 l1 site patch change =
    elim (place_of patch seen) as (λ w. place_of patch seen ≡ w → undone after (rows_of_taken site patch w (is_empty others)) ≡ before
    → are_due after (rows_of_taken site patch w (is_empty others)) ≡ true → have_effects after (rows_of_taken site patch w (is_empty others)) ≡ true) [
      | None ↦ λ none undo due. refl
      | (Some place) ↦ λ there undo due. some place (sym (has_place patch seen (Some place) (sym there))) (is_empty others) refl undo due
    ] refl change.undo change.due
  where
    seen : Entries
    seen = entries_at before.stacks site

    others : Entries
    others = entries_of_others patch seen

    some : (place : Place) → has_entry patch seen ≡ true → (last : Bool) → is_empty others ≡ last → undone after (rows_of_taken site patch (Some place) last) ≡ before
        → are_due after (rows_of_taken site patch (Some place) last) ≡ true → have_effects after (rows_of_taken site patch (Some place) last) ≡ true
    some place has last is undo due =
        let left : entries_at after.stacks site ≡ others =
        ap (λ (t : SiteTable). entries_at t.stacks site) change.table ∙ get_or-set_same before.stacks site others [] (site_there patch before.stacks site has)
        in
        let hooked = hooked_with patch seen has in
        let turns : has_entry patch seen ≡ not (has_entry patch (entries_at after.stacks site)) = has ∙ sym (ap (λ es. not (has_entry patch es)) left ∙ ap not (none_of_others patch seen)) in
        elim last as (λ b. is_empty others ≡ b → undone after (rows_of_taken site patch (Some place) b) ≡ before
        → are_due after (rows_of_taken site patch (Some place) b) ≡ true → have_effects after (rows_of_taken site patch (Some place) b) ≡ true) [
          | true ↦ λ none undo due. effective_with before after site patch (Some place) undo (and_parts (is_due after (StackEntry site patch (Some place))) _ due).0 turns true hooked (ap is_stacked left ∙ ap not none)
          | false ↦ λ some undo due. effective_alone before after site patch (Some place) undo (and_parts (is_due after (StackEntry site patch (Some place))) _ due).0 turns (ap is_stacked left ∙ ap not some ∙ sym hooked)
        ] is undo due

-- an object is loaded that wasn't, or unloaded that was
pub loaded_effective : (table after : SiteTable) (object : ℕ) (flag was : Bool) → object < length table.loaded → after ≡ record table { loaded = set table.loaded object flag } → was ≡ not flag
    → have_effects after (LoadedFlag object was ∷ []) ≡ true
loaded_effective table after object flag was there is other =
    let now : get_or after.loaded object false ≡ flag = ap (λ (t : SiteTable). get_or t.loaded object false) is ∙ get_or-set_same table.loaded object flag false there in
    telling after (LoadedFlag object was ∷ []) ∙ rw (differ (get_or after.loaded object false) was (other ∙ ap not (sym now))) refl
