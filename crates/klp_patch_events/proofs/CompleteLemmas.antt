-- What is left when a transition is complete.
use Rattle.klp_manager_state.specs.Rows.{SitesGoBack}
use Rattle.klp_patch_events.proofs.BackLemmas.{patch_back}
use Rattle.std.proofs.Common.{◌≡◌, ℕ, ◌+◌, ◌*◌, ◌≤◌, Bool, cond, true, false, List, [], ◌∷◌, length, map, drop, filter, ◌||◌, None, refl, sym, ap, ◌∙◌, arith}
use Rattle.std.specs.Prelude.{not, ◌==◌, if◌then◌else◌}
use Rattle.std.specs.List.{count_by}
use Rattle.std.specs.Cmp.{nat_eq_equiv}
use Rattle.std.proofs.lemmas.List.{length-append, length-map}
use Rattle.std.proofs.lemmas.List.{drop_all}
use Rattle.std.proofs.lemmas.List.Sums.{sum_by-cons}
use Rattle.klp_types.specs.declared.limits.TheConstants.{MAX_SITES, MAX_RECORDS}
use Rattle.klp_types.specs.declared.version.Entry.{Entry}
use Rattle.klp_types.specs.Records.{RecordList}
use Rattle.klp_model.specs.Allowed.{is_one_of}
use Rattle.klp_catalog.specs.Catalog.{Catalog, CatalogFunction, setting_function}
use Rattle.klp_catalog.specs.States.{is_cumulative}
use Rattle.klp_stack.specs.Stack.{entries_at, has_entry, entries_of_others}
use Rattle.klp_sites.specs.Table.{SiteTable}
use Rattle.klp_patch.specs.Covered.{is_covered, functions_in}
use Rattle.klp_patch.specs.Changes.{Notes, AreMade, hooked_count, most_entries}
use Rattle.klp_patch_events.specs.Complete.{AreOwn}
use Rattle.klp_patch_events.proofs.ModuleLemmas.{any-filter}

-- the entries without those of these patches
abbrev pub without_all : List ℕ → List Entry → List Entry
without_all patches entries = filter (λ (e : Entry). not (is_one_of e.patch patches)) entries

abbrev pub where_covered : Bool → List ℕ → List Entry → List Entry
where_covered covered patches entries = if covered then without_all patches entries else entries

-- the records that are logged, or are to be logged where these patches leave the sites
abbrev pub budget : Catalog → SiteTable → RecordList → List ℕ → ℕ
budget catalog table log patches = length log.logged + hooked_count table + 64 * length patches + 256 * count_by (is_cumulative catalog) patches

-- some of the patches have left the sites, and these are left
pub record SoFar (catalog : Catalog) (first now : SiteTable) (log_first log_now : RecordList) (all left : List ℕ) : Type 0 where
  pub image : now.image ≡ first.image
  pub loaded : now.loaded ≡ first.loaded
  pub own : AreOwn catalog now.stacks
  pub entries : (site : ℕ) → where_covered (is_covered first None site) left (entries_at now.stacks site)
      ≡ where_covered (is_covered first None site) all (entries_at first.stacks site)
  pub budget : budget catalog now log_now left ≤ budget catalog first log_first all
  pub back : SitesGoBack first now log_first log_now
  pub room : log_now.room ≡ MAX_RECORDS

-- lists with some elements taken out

kept_entry : (covered : Bool) (patch own : ℕ) (entries : List Entry) → has_entry own (if covered then entries_of_others patch entries else entries) ≡ true → has_entry own entries ≡ true
kept_entry true patch own entries is = any-filter (λ (e : Entry). e.patch == own) (λ (e : Entry). not (e.patch == patch)) entries is
kept_entry false patch own entries is = is

none_out : (entries : List Entry) → without_all [] entries ≡ entries
none_out [] = refl
none_out (e ∷ entries) = ap (λ es. e ∷ es) (none_out entries)

one_more_out : (patch : ℕ) (left : List ℕ) (entries : List Entry) → without_all left (entries_of_others patch entries) ≡ without_all (patch ∷ left) entries
one_more_out patch left [] = refl
one_more_out patch left (e ∷ entries) =
    let others = entries_of_others patch entries in
    let more = without_all (patch ∷ left) entries in
    ap (λ b. without_all left (if not b then e ∷ others else others)) (nat_eq_equiv.symm e.patch patch)
    ∙ elim (patch == e.patch) as (λ b. without_all left (if not b then e ∷ others else others) ≡ (if not (b || is_one_of e.patch left) then e ∷ more else more)) [
      | true ↦ one_more_out patch left entries
      | false ↦ elim (is_one_of e.patch left) as (λ b. (if not b then e ∷ without_all left others else without_all left others) ≡ (if not b then e ∷ more else more)) [
        | true ↦ one_more_out patch left entries
        | false ↦ ap (λ es. e ∷ es) (one_more_out patch left entries)
      ]
    ]

covered_more : (covered : Bool) (patch : ℕ) (left : List ℕ) (entries : List Entry)
    → where_covered covered left (if covered then entries_of_others patch entries else entries) ≡ where_covered covered (patch ∷ left) entries
covered_more true patch left entries = one_more_out patch left entries
covered_more false patch left entries = refl

pub covered_none : (covered : Bool) (entries : List Entry) → where_covered covered [] entries ≡ entries
covered_none true entries = none_out entries
covered_none false entries = refl

-- one patch leaves the sites

most_of : (functions stacks : ℕ) (cumulative : Bool) → functions ≤ 64 → stacks ≤ MAX_SITES → functions + (if cumulative then stacks else 0) ≤ 64 + 256 * cond cumulative 1 0
most_of functions stacks true few sites = omega (arith, few, sites)
most_of functions stacks false few sites = omega (arith, few)

pub next_so_far : (catalog : Catalog) (first now after : SiteTable) (log_first log_now log_after : RecordList) (all left : List ℕ) (patch : ℕ)
    → SoFar catalog first now log_first log_now all (patch ∷ left) → length (functions_in catalog patch) ≤ 64 → length now.stacks ≤ MAX_SITES
    → AreMade now after (is_covered now None) (λ site entries. entries_of_others patch entries)
    → Notes now after log_now log_after (most_entries catalog patch now) (hooked_count after) (hooked_count now)
    → SoFar catalog first after log_first log_after all left
next_so_far catalog first now after log_first log_now log_after all left patch so few sites made notes = record {
  image = made.image ∙ so.image;
  loaded = made.loaded ∙ so.loaded;
  own = λ own site has. so.own own site (kept_entry (is_covered now None site) patch own (entries_at now.stacks site) (sym (ap (has_entry own) (made.entries site)) ∙ has));
  entries = λ site.
      let same : is_covered now None site ≡ is_covered first None site = rw (so.image, so.loaded) refl in
      ap (where_covered (is_covered first None site) left) (made.entries site)
      ∙ ap (λ b. where_covered (is_covered first None site) left (if b then entries_of_others patch (entries_at now.stacks site) else entries_at now.stacks site)) same
      ∙ covered_more (is_covered first None site) patch left (entries_at now.stacks site)
      ∙ so.entries site;
  budget =
      let logged = ap (λ (l : RecordList). length l.logged) notes.logged in
      let both = length-append log_now.logged notes.rows in
      let most = most_of (length (functions_in catalog patch)) (length now.stacks) (is_cumulative catalog patch) few sites in
      let spent = so.budget in
      let one = sum_by-cons (λ p. cond (is_cumulative catalog p) 1 0) patch left in
      omega (arith, logged, both, notes.few, most, spent, one);
  back = λ rows. patch_back now after log_now log_after _ _ _ notes rows ∙ so.back rows;
  room = ap (λ (l : RecordList). l.room) notes.logged ∙ so.room;
}

pub few_functions : (catalog : Catalog) (patch : ℕ) (functions : List CatalogFunction) → map setting_function functions ≡ functions_in catalog patch → length functions ≤ 64
    → length (functions_in catalog patch) ≤ 64
few_functions catalog patch functions are few = omega (arith, sym (ap (λ fs. length fs) are) ∙ length-map functions setting_function, few)

pub none_behind : {A : Type 0} (xs : List A) (k : ℕ) → length xs ≤ k → drop k xs ≡ []
none_behind xs k past = drop_all k xs past
