-- The entries of one site change.
use Rattle.std.proofs.Common.{◌≡◌, ℕ, ◌+◌, ◌<◌, ◌≤◌, Bool, true, false, not, ◌&&◌, ◌||◌, List, [], ◌∷◌, length, set, refl, sym, ap, subst, ◌∙◌, arith, Option, Some, None, eqb}
use Rattle.std.specs.Prelude.{cond, find}
use Rattle.std.specs.Option.{is_some, is_none}
use Rattle.std.proofs.lemmas.Bool.{eqb-true, or_parts, not_from_false, cond-true}
use Rattle.std.specs.List.{All, count_by}
use Rattle.std.proofs.lemmas.List.Elements.{All-nil, All-cons}
use Rattle.std.proofs.lemmas.List.{length-set, set-get_or}
use Rattle.std.proofs.lemmas.List.Sums.{sum_by-set, count_by-le-length}
use Rattle.klp_types.specs.declared.limits.TheConstants.{MAX_SITES}
use Rattle.klp_types.specs.declared.record.Place.{Place}
use Rattle.klp_types.specs.declared.record.Record.{Record}
use Rattle.klp_types.specs.declared.record.Record.TheVariants.{StackEntry, HookFlag}
use Rattle.klp_types.specs.declared.version.Entry.{Entry}
use Rattle.klp_types.specs.Entries.{is_empty}
use Rattle.klp_stack.specs.Stack.{entries_at, has_entry, entries_of_others, place_of, IsStack}
use Rattle.klp_sites.specs.Table.{SiteTable, is_stacked}
use Rattle.klp_stack.proofs.ChangeLemmas.{site_there}
use Rattle.klp_stack.proofs.StackLemmas.{has_place, not_taken}
use Rattle.klp_sites.specs.Changes.{pushed, taken, rows_of_push, rows_of_taken, rows_of_take}
use Rattle.klp_sites.specs.Undo.{is_of_sites}
use Rattle.klp_patch.specs.Changes.{AreMade, with_nop, without_nop, hooked_count}

abbrev pub Entries : Type 0
Entries = List Entry

-- a row of a site
abbrev pub OfSites : Record → Type 0
OfSites row = is_of_sites row ≡ true

pub none_of_sites : All OfSites []
none_of_sites = All-nil OfSites

hook_of_site : (hooks was : Bool) (site : ℕ) → All OfSites (cond hooks (HookFlag site was ∷ []) [])
hook_of_site hooks was site = elim hooks as (λ b. All OfSites (cond b (HookFlag site was ∷ []) [])) [
  | true ↦ All-cons OfSites (HookFlag site was) [] refl none_of_sites
  | false ↦ none_of_sites
]

pub push_of_sites : (table : SiteTable) (site : ℕ) (entry : Entry) → All OfSites (rows_of_push table site entry)
push_of_sites table site entry =
    All-cons OfSites (StackEntry site entry.patch None) _ refl (hook_of_site (is_empty (entries_at table.stacks site)) false site)

pub take_of_sites : (table : SiteTable) (site patch : ℕ) → All OfSites (rows_of_take table site patch)
take_of_sites table site patch = by (place_of patch (entries_at table.stacks site)) (is_empty (entries_of_others patch (entries_at table.stacks site)))
  where
    by : (was : Option Place) (last : Bool) → All OfSites (rows_of_taken site patch was last)
    by None last = none_of_sites
    by (Some place) last = All-cons OfSites (StackEntry site patch (Some place)) _ refl (hook_of_site last true site)

-- what is made of the entries of one site may be said otherwise
pub made_alike : (before after : SiteTable) (site : ℕ) (make change : ℕ → Entries → Entries) → AreMade before after (λ other. eqb site other) make
    → make site (entries_at before.stacks site) ≡ change site (entries_at before.stacks site) → AreMade before after (λ other. eqb site other) change
made_alike before after site make change made same = record { image = made.image; loaded = made.loaded; entries = λ other. made.entries other ∙ at other }
  where
    at : (other : ℕ) → cond (eqb site other) (make other (entries_at before.stacks other)) (entries_at before.stacks other) ≡ cond (eqb site other) (change other (entries_at before.stacks other)) (entries_at before.stacks other)
    at other = elim (eqb site other) as (λ b. eqb site other ≡ b → cond b (make other (entries_at before.stacks other)) (entries_at before.stacks other) ≡ cond b (change other (entries_at before.stacks other)) (entries_at before.stacks other)) [
      | true ↦ λ e. subst (λ n. make n (entries_at before.stacks n) ≡ change n (entries_at before.stacks n)) (eqb-true site other e) same
      | false ↦ λ e. refl
    ] refl

-- nothing is made anew where what is made of the entries is these
pub unmade_at : (before : SiteTable) (site : ℕ) (make : ℕ → Entries → Entries) → make site (entries_at before.stacks site) ≡ entries_at before.stacks site → AreMade before before (λ other. eqb site other) make
unmade_at before site make same = record { image = refl; loaded = refl; entries = at }
  where
    at : (other : ℕ) → entries_at before.stacks other ≡ cond (eqb site other) (make other (entries_at before.stacks other)) (entries_at before.stacks other)
    at other = elim (eqb site other) as (λ b. eqb site other ≡ b → entries_at before.stacks other ≡ cond b (make other (entries_at before.stacks other)) (entries_at before.stacks other)) [
      | true ↦ λ e. subst (λ n. entries_at before.stacks n ≡ make n (entries_at before.stacks n)) (eqb-true site other e) (sym same)
      | false ↦ λ e. refl
    ] refl

-- A push notes one row more exactly where it hooks the site.
few_pushed : (site patch : ℕ) (entries : Entries) (before after : ℕ) → after + cond (is_stacked entries) 1 0 ≡ before + 1
    → length (StackEntry site patch None ∷ cond (is_empty entries) (HookFlag site false ∷ []) []) + before ≤ 1 + after
few_pushed site patch [] before after count = omega (arith, count)
few_pushed site patch (entry ∷ older) before after count = omega (arith, count)

pub push_few : (table : SiteTable) (site : ℕ) (entry : Entry) → site < length table.stacks → length (rows_of_push table site entry) + hooked_count table ≤ 1 + hooked_count (pushed table site entry)
push_few table site entry there =
    few_pushed site entry.patch (entries_at table.stacks site) (hooked_count table) (hooked_count (pushed table site entry))
    (sum_by-set (λ es. cond (is_stacked es) 1 0) table.stacks site (entry ∷ entries_at table.stacks site) [] there)

-- A take notes one row more exactly where it unhooks the site, and none where the patch has no entry.
few_taken : (site patch : ℕ) (place : Place) (entries others : Entries) (before after : ℕ) → place_of patch entries ≡ Some place
    → after + cond (is_stacked entries) 1 0 ≡ before + cond (is_stacked others) 1 0 → length (rows_of_taken site patch (Some place) (is_empty others)) + after ≤ 1 + before
few_taken site patch place [] others before after there count = cc
few_taken site patch place (entry ∷ older) [] before after there count = omega (arith, count)
few_taken site patch place (entry ∷ older) (other ∷ others) before after there count = omega (arith, count)

pub take_few : (table : SiteTable) (site patch : ℕ) → length (rows_of_take table site patch) + hooked_count (taken table site patch) ≤ 1 + hooked_count table
take_few table site patch =
    let seen = entries_at table.stacks site in
    let others = entries_of_others patch seen in
    elim (place_of patch seen) as (λ w. place_of patch seen ≡ w → length (rows_of_taken site patch w (is_empty others)) + hooked_count (taken table site patch) ≤ 1 + hooked_count table) [
      | None ↦ λ none.
          let same : set table.stacks site others ≡ table.stacks = ap (set table.stacks site) (not_taken patch seen none) ∙ set-get_or table.stacks site [] in
          let count = ap (count_by is_stacked) same in
          omega (arith, count)
      | (Some place) ↦ λ there.
          let within = site_there patch table.stacks site (sym (has_place patch seen (Some place) (sym there))) in
          few_taken site patch place seen others (hooked_count table) (hooked_count (taken table site patch)) there
          (sum_by-set (λ es. cond (is_stacked es) 1 0) table.stacks site others [] within)
    ] refl

pub push_fits : (table : SiteTable) (site : ℕ) (entry : Entry) (spare : ℕ) → site < length table.stacks → length table.stacks ≤ MAX_SITES → 1 + MAX_SITES ≤ spare + hooked_count table
    → length (rows_of_push table site entry) ≤ spare
push_fits table site entry spare there sites room =
    let count = count_by-le-length is_stacked (pushed table site entry).stacks in
    let same = length-set table.stacks site (entry ∷ entries_at table.stacks site) in
    omega (arith, push_few table site entry there, count, same)

-- What a look for the entry of a patch tells.
pub found_is : (patch : ℕ) (entries : Entries) → is_some (find (λ (e : Entry). eqb e.patch patch) entries) ≡ has_entry patch entries
found_is patch [] = refl
found_is patch (entry ∷ older) = elim (eqb entry.patch patch) as
    (λ b. is_some (cond b (Some entry) (find (λ (e : Entry). eqb e.patch patch) older)) ≡ (b || has_entry patch older)) [ true ↦ refl | false ↦ found_is patch older ]

pub looked : (patch : ℕ) (entries : Entries) (found : Option Entry) (there : Bool) → found ≡ find (λ (e : Entry). eqb e.patch patch) entries → is_some found ≡ there → has_entry patch entries ≡ there
looked patch entries found there is some = sym (found_is patch entries) ∙ ap is_some (sym is) ∙ some

pub none_is : (o : Option ℕ) (none : Bool) → is_some o ≡ not none → is_none o ≡ none
none_is None true e = refl
none_is None false e = cc
none_is (Some n) true e = cc
none_is (Some n) false e = refl

-- of a patch without an entry, all entries are those of others
pub all_others : (patch : ℕ) (entries : Entries) → has_entry patch entries ≡ false → entries_of_others patch entries ≡ entries
all_others patch [] none = refl
all_others patch (entry ∷ older) none =
    let parts = or_parts (eqb entry.patch patch) (has_entry patch older) none in
    cond-true _ _ _ (not_from_false _ parts.0) ∙ ap (λ rest. entry ∷ rest) (all_others patch older parts.1)

-- a patch without an entry has no nop
pub no_nop : (patch : ℕ) (entries : Entries) → has_entry patch entries ≡ false → without_nop patch entries ≡ entries
no_nop patch [] none = refl
no_nop patch (entry ∷ older) none =
    let parts = or_parts (eqb entry.patch patch) (has_entry patch older) none in
    rw parts.0 (ap (λ rest. entry ∷ rest) (no_nop patch older parts.1))

-- the one entry of a patch is a nop, or it isn't
pub nop_goes : (patch : ℕ) (entries : Entries) (entry : Entry) → IsStack entries → find (λ (e : Entry). eqb e.patch patch) entries ≡ Some entry → is_none entry.func ≡ true
    → without_nop patch entries ≡ entries_of_others patch entries
nop_goes patch [] entry stack found nop = refl
nop_goes patch (first ∷ older) entry stack found nop = elim (eqb first.patch patch) as
    (λ b. eqb first.patch patch ≡ b → cond b (Some first) (find (λ (e : Entry). eqb e.patch patch) older) ≡ Some entry
    → cond (not (b && is_none first.func)) (first ∷ without_nop patch older) (without_nop patch older) ≡ cond (not b) (first ∷ entries_of_others patch older) (entries_of_others patch older)) [
      | true ↦ λ own is.
          let none : has_entry patch older ≡ false = subst (λ p. has_entry p older ≡ false) (eqb-true _ _ own) stack.1 in
          let its : is_none first.func ≡ true = first_nop first entry is nop in
          rw its (no_nop patch older none ∙ sym (all_others patch older none))
      | false ↦ λ own is. ap (λ rest. first ∷ rest) (nop_goes patch older entry stack.2 is nop)
    ] refl found
  where
    first_nop : (first entry : Entry) → Some first ≡ Some entry → is_none entry.func ≡ true → is_none first.func ≡ true
    first_nop first entry is nop = cc

pub function_stays : (patch : ℕ) (entries : Entries) (entry : Entry) → IsStack entries → find (λ (e : Entry). eqb e.patch patch) entries ≡ Some entry → is_none entry.func ≡ false
    → without_nop patch entries ≡ entries
function_stays patch [] entry stack found nop = refl
function_stays patch (first ∷ older) entry stack found nop = elim (eqb first.patch patch) as
    (λ b. eqb first.patch patch ≡ b → cond b (Some first) (find (λ (e : Entry). eqb e.patch patch) older) ≡ Some entry
    → cond (not (b && is_none first.func)) (first ∷ without_nop patch older) (without_nop patch older) ≡ first ∷ older) [
      | true ↦ λ own is.
          let none : has_entry patch older ≡ false = subst (λ p. has_entry p older ≡ false) (eqb-true _ _ own) stack.1 in
          let its : is_none first.func ≡ false = first_function first entry is nop in
          rw its (ap (λ rest. first ∷ rest) (no_nop patch older none))
      | false ↦ λ own is. ap (λ rest. first ∷ rest) (function_stays patch older entry stack.2 is nop)
    ] refl found
  where
    first_function : (first entry : Entry) → Some first ≡ Some entry → is_none entry.func ≡ false → is_none first.func ≡ false
    first_function first entry is nop = cc

-- a nop isn't put on a patch's own entry
pub nop_not_on_own : (patch : ℕ) (entries : Entries) → has_entry patch entries ≡ true → with_nop patch entries ≡ entries
nop_not_on_own patch [] own = refl
nop_not_on_own patch (entry ∷ older) own = cond-true _ _ _ own
