-- Changes of the entries one after another, and what they note together.
use Rattle.std.proofs.Common.{◌≡◌, ℕ, ◌+◌, ◌-◌, ◌<◌, ◌≤◌, inl, inr, Bool, true, false, ◌&&◌, Option, List, [], ◌∷◌, ◌++◌, length, set, refl, sym, ap, ◌∙◌, arith, eqb, ltb, length-append, append_assoc}
use Rattle.std.specs.Prelude.{cond}
use Rattle.std.proofs.lemmas.Bool.{cases_lt, eqb-true, eqb-false, lt-ltb, le-ltb, ltb-true, ltb-false}
use Rattle.std.proofs.lemmas.List.{length-set}
use Rattle.std.proofs.lemmas.List.Elements.{All-append}
use Rattle.klp_types.specs.declared.limits.TheConstants.{MAX_SITES}
use Rattle.klp_types.specs.declared.record.Record.{Record}
use Rattle.klp_types.specs.declared.record.Record.TheVariants.{StackEntry, LoadedFlag}
use Rattle.klp_types.specs.Records.{RecordList, spare_of}
use Rattle.klp_types.specs.Image.{Image, object_of}
use Rattle.klp_stack.specs.Stack.{entries_at}
use Rattle.klp_stack.specs.Undo.{put_entry}
use Rattle.klp_sites.specs.Table.{SiteTable, is_stacked, is_hooked_at}
use Rattle.klp_sites.specs.Changes.{noting}
use Rattle.klp_sites.specs.Undo.{put_back, undone, have_effects}
use Rattle.klp_sites.proofs.ExactLemmas.{undone_both, effective_both}
use Rattle.klp_patch.specs.Covered.{is_covered, is_object_in_scope}
use Rattle.klp_patch.specs.Changes.{AreMade, Notes, hooked_count}
use Rattle.klp_patch.proofs.SiteLemmas.{Entries, OfSites}

-- records put back leave the number of sites
row_keeps : (table : SiteTable) (row : Record) → length (put_back table row).stacks ≡ length table.stacks
row_keeps table (StackEntry site patch was) = length-set table.stacks site (put_entry patch was (entries_at table.stacks site))
row_keeps table (LoadedFlag object was) = elim (ltb object (length table.image.objects)) as
    (λ b. length (cond b (record table { loaded = set table.loaded object was }) table).stacks ≡ length table.stacks) [ true ↦ refl | false ↦ refl ]
row_keeps table other = refl

rows_keep : (table : SiteTable) (rows : List Record) → length (undone table rows).stacks ≡ length table.stacks
rows_keep table [] = refl
rows_keep table (row ∷ newer) = row_keeps (undone table newer) row ∙ rows_keep table newer

pub sites_kept : (before after : SiteTable) (log_before log_after : RecordList) (most from to : ℕ) → Notes before after log_before log_after most from to → length after.stacks ≡ length before.stacks
sites_kept before after log_before log_after most from to notes = sym (rows_keep after notes.rows) ∙ ap (λ (t : SiteTable). length t.stacks) notes.undo

-- what two changes note, one after another
module _ (before now after : SiteTable) (log_before log_now log_after : RecordList) (first second from_first to_first from_second to_second : ℕ)
    (notes : Notes before now log_before log_now first from_first to_first) (more : Notes now after log_now log_after second from_second to_second) where
  pub notes_both : (most from to : ℕ) → first + second ≤ most → from + (to_first + to_second) ≡ from_first + from_second + to → Notes before after log_before log_after most from to
  notes_both most from to enough balance = record {
    rows = notes.rows ++ more.rows;
    logged =
        more.logged ∙ ap (λ (log : RecordList). noting log more.rows) notes.logged
        ∙ ap (λ rows. record log_before { logged = rows }) (append_assoc log_before.logged notes.rows more.rows);
    of_sites = All-append OfSites notes.rows more.rows notes.of_sites more.of_sites;
    undo = undone_both after notes.rows more.rows ∙ ap (λ t. undone t notes.rows) more.undo ∙ notes.undo;
    effective = effective_both after notes.rows more.rows more.effective ∙ ap (λ t. have_effects t notes.rows) more.undo ∙ notes.effective;
    few = omega (arith, length-append notes.rows more.rows, notes.few, more.few, enough, balance);
  }

module _ (before now after : SiteTable) (log_before log_now log_after : RecordList) (first second most : ℕ) (enough : first + second ≤ most) where
  pub notes_put : Notes before now log_before log_now first (hooked_count before) (hooked_count now) → Notes now after log_now log_after second (hooked_count now) (hooked_count after)
      → Notes before after log_before log_after most (hooked_count before) (hooked_count after)
  notes_put notes more =
      notes_both before now after log_before log_now log_after first second (hooked_count before) (hooked_count now) (hooked_count now) (hooked_count after) notes more most (hooked_count before) (hooked_count after) enough (omega arith)

  pub notes_taken : Notes before now log_before log_now first (hooked_count now) (hooked_count before) → Notes now after log_now log_after second (hooked_count after) (hooked_count now)
      → Notes before after log_before log_after most (hooked_count after) (hooked_count before)
  notes_taken notes more =
      notes_both before now after log_before log_now log_after first second (hooked_count now) (hooked_count before) (hooked_count after) (hooked_count now) notes more most (hooked_count after) (hooked_count before) enough (omega arith)

pub notes_longer : (before after : SiteTable) (log_before log_after : RecordList) (most more from to : ℕ) → most ≤ more → Notes before after log_before log_after most from to → Notes before after log_before log_after more from to
notes_longer before after log_before log_after most more from to longer notes = record { rows = notes.rows; logged = notes.logged; of_sites = notes.of_sites; undo = notes.undo; effective = notes.effective; few = omega (arith, notes.few) }

-- how much room a change leaves
spare_after : (before after : SiteTable) (log_before log_after : RecordList) (most from to : ℕ) (notes : Notes before after log_before log_after most from to)
    → spare_of log_after ≡ spare_of log_before - length notes.rows
spare_after before after log_before log_after most from to notes =
    let count = length-append log_before.logged notes.rows in
    ap spare_of notes.logged ∙ (let e : log_before.room - length (log_before.logged ++ notes.rows) ≡ log_before.room - length log_before.logged - length notes.rows = omega (arith, count) in e)

module _ (before after : SiteTable) (log_before log_after : RecordList) (most : ℕ) where
  pub room_when_put : (left : ℕ) → Notes before after log_before log_after most (hooked_count before) (hooked_count after)
      → left + most + MAX_SITES ≤ spare_of log_before + hooked_count before → left + MAX_SITES ≤ spare_of log_after + hooked_count after
  room_when_put left notes room = omega (arith, spare_after before after log_before log_after most (hooked_count before) (hooked_count after) notes, notes.few, room)

-- two changes of the entries are one, where that says of each site what both say
pub made_both : (before now after : SiteTable) (first second both : ℕ → Bool) (make change made : ℕ → Entries → Entries) → AreMade before now first make → AreMade now after second change
    → ((site : ℕ) → cond (second site)
    (change site (cond (first site) (make site (entries_at before.stacks site)) (entries_at before.stacks site)))
    (cond (first site) (make site (entries_at before.stacks site)) (entries_at before.stacks site))
    ≡ cond (both site) (made site (entries_at before.stacks site)) (entries_at before.stacks site))
    → AreMade before after both made
made_both before now after first second both make change made one other same = record {
  image = other.image ∙ one.image;
  loaded = other.loaded ∙ one.loaded;
  entries = λ site. other.entries site ∙ ap (λ es. cond (second site) (change site es) es) (one.entries site) ∙ same site;
}

-- the same said otherwise
pub made_also : (before after : SiteTable) (covers others : ℕ → Bool) (make change : ℕ → Entries → Entries) → AreMade before after covers make
    → ((site : ℕ) → cond (covers site) (make site (entries_at before.stacks site)) (entries_at before.stacks site) ≡ cond (others site) (change site (entries_at before.stacks site)) (entries_at before.stacks site))
    → AreMade before after others change
made_also before after covers others make change made same = record { image = made.image; loaded = made.loaded; entries = λ site. made.entries site ∙ same site }

-- a change of the entries leaves what a change is about
pub same_covered : (before after : SiteTable) (covers : ℕ → Bool) (make : ℕ → Entries → Entries) (only : Option ℕ) → AreMade before after covers make → (site : ℕ) → is_covered after only site ≡ is_covered before only site
same_covered before after covers make only made site =
    ap (λ flags. is_object_in_scope only flags (object_of after.image.objects site)) made.loaded ∙ ap (λ (image : Image). is_object_in_scope only before.loaded (object_of image.objects site)) made.image

-- Site by site: those below a number are done.
next_site : (own covers below next : Bool) (make : Entries → Entries) (entries : Entries) → (own ≡ true → (covers ≡ true) × (below ≡ false) × (next ≡ true)) → (own ≡ false → below ≡ next)
    → cond own (make (cond (covers && below) (make entries) entries)) (cond (covers && below) (make entries) entries) ≡ cond (covers && next) (make entries) entries
next_site true covers below next make entries at apart = let h = at refl in rw (h.0, h.1, h.2) refl
next_site false covers below next make entries at apart = ap (λ b. cond (covers && b) (make entries) entries) (apart refl)

below_next : (site i : ℕ) → eqb i site ≡ false → ltb site i ≡ ltb site (i + 1)
below_next site i apart = elim (ltb site i) as (λ b. ltb site i ≡ b → b ≡ ltb site (i + 1)) [
  | true ↦ λ e. let below : site < i = ltb-true _ _ e in sym (lt-ltb site (i + 1) (omega arith))
  | false ↦ λ e. let past : i ≤ site = ltb-false _ _ e in let other : i ≡ site → ⊥ = eqb-false i site apart in sym (le-ltb site (i + 1) (omega arith))
] refl

module _ (before now : SiteTable) (covers : ℕ → Bool) (make : ℕ → Entries → Entries) (i : ℕ) (so_far : AreMade before now (λ site. covers site && ltb site i) make) where
  pub next_made : (after : SiteTable) → covers i ≡ true → AreMade now after (λ site. eqb i site) make → AreMade before after (λ site. covers site && ltb site (i + 1)) make
  next_made after covered made =
      made_both before now after (λ site. covers site && ltb site i) (λ site. eqb i site) (λ site. covers site && ltb site (i + 1)) make make make so_far made
      (λ site. next_site (eqb i site) (covers site) (ltb site i) (ltb site (i + 1)) (make site) (entries_at before.stacks site)
      (λ own. let here : i ≡ site = eqb-true i site own in
      (ap covers (sym here) ∙ covered, le-ltb site i (omega arith), lt-ltb site (i + 1) (omega arith)))
      (λ apart. below_next site i apart))

  pub next_passed : covers i ≡ false → AreMade before now (λ site. covers site && ltb site (i + 1)) make
  next_passed passed = made_also before now (λ site. covers site && ltb site i) (λ site. covers site && ltb site (i + 1)) make make so_far (λ site. at site)
    where
      at : (site : ℕ) → cond (covers site && ltb site i) (make site (entries_at before.stacks site)) (entries_at before.stacks site)
          ≡ cond (covers site && ltb site (i + 1)) (make site (entries_at before.stacks site)) (entries_at before.stacks site)
      at site = elim (eqb i site) as (λ b. eqb i site ≡ b → cond (covers site && ltb site i) (make site (entries_at before.stacks site)) (entries_at before.stacks site)
          ≡ cond (covers site && ltb site (i + 1)) (make site (entries_at before.stacks site)) (entries_at before.stacks site)) [
            | true ↦ λ e. let no : covers site ≡ false = ap covers (sym (eqb-true i site e)) ∙ passed in rw no refl
            | false ↦ λ e. ap (λ b. cond (covers site && b) (make site (entries_at before.stacks site)) (entries_at before.stacks site)) (below_next site i e)
          ] refl

-- Sites without entries are passed over.
none_at : (stacks : List Entries) (site : ℕ) → is_hooked_at stacks site ≡ false → entries_at stacks site ≡ []
none_at stacks site none = by (entries_at stacks site) none
  where
    by : (entries : Entries) → is_stacked entries ≡ false → entries ≡ []
    by [] none = refl
    by (entry ∷ older) none = cc

none_made : (covers here next : Bool) (make : Entries → Entries) (before now : Entries) → make [] ≡ [] → now ≡ cond (covers && here) (make before) before → here ≡ false → now ≡ []
    → cond (covers && here) (make before) before ≡ cond (covers && next) (make before) before
none_made covers true next make before now rests so_far past none = cc
none_made false false next make before now rests so_far past none = refl
none_made true false false make before now rests so_far past none = refl
none_made true false true make before now rests so_far past none = let was : before ≡ [] = sym so_far ∙ none in was ∙ sym rests ∙ ap make (sym was)

module _ (before now : SiteTable) (covers : ℕ → Bool) (make : ℕ → Entries → Entries) (i : ℕ) (so_far : AreMade before now (λ site. covers site && ltb site i) make) (rests : (site : ℕ) → make site [] ≡ []) where
  skipped : (next : Bool) (site : ℕ) → i ≤ site → is_hooked_at now.stacks site ≡ false
      → cond (covers site && ltb site i) (make site (entries_at before.stacks site)) (entries_at before.stacks site) ≡ cond (covers site && next) (make site (entries_at before.stacks site)) (entries_at before.stacks site)
  skipped next site behind none =
      none_made (covers site) (ltb site i) next (make site) (entries_at before.stacks site) (entries_at now.stacks site) (rests site) (so_far.entries site) (le-ltb site i behind) (none_at now.stacks site none)

  same : (next : Bool) (site : ℕ) → ltb site i ≡ next
      → cond (covers site && ltb site i) (make site (entries_at before.stacks site)) (entries_at before.stacks site) ≡ cond (covers site && next) (make site (entries_at before.stacks site)) (entries_at before.stacks site)
  same next site is = ap (λ b. cond (covers site && b) (make site (entries_at before.stacks site)) (entries_at before.stacks site)) is

  -- up to a site
  pub next_skipped : (to : ℕ) → i ≤ to → ((site : ℕ) → i ≤ site → site < to → is_hooked_at now.stacks site ≡ false) → AreMade before now (λ site. covers site && ltb site to) make
  next_skipped to le none =
      made_also before now (λ site. covers site && ltb site i) (λ site. covers site && ltb site to) make make so_far (λ site.
      elim (cases_lt site i) [
        | inl below ↦ same (ltb site to) site (lt-ltb site i below ∙ sym (lt-ltb site to (omega arith)))
        | inr behind ↦ elim (cases_lt site to) [
          | inl within ↦ skipped (ltb site to) site behind (none site behind within)
          | inr past ↦ same (ltb site to) site (le-ltb site i behind ∙ sym (le-ltb site to past))
        ]
      ])

  -- and behind the last
  pub all_skipped : ((site : ℕ) → i ≤ site → is_hooked_at now.stacks site ≡ false) → AreMade before now covers make
  all_skipped none =
      made_also before now (λ site. covers site && ltb site i) covers make make so_far (λ site.
      elim (cases_lt site i) [
        | inl below ↦ same true site (lt-ltb site i below) ∙ all_of (covers site) (make site) (entries_at before.stacks site)
        | inr behind ↦ skipped true site behind (none site behind) ∙ all_of (covers site) (make site) (entries_at before.stacks site)
      ])
    where
      all_of : (covers : Bool) (make : Entries → Entries) (entries : Entries) → cond (covers && true) (make entries) entries ≡ cond covers (make entries) entries
      all_of true make entries = refl
      all_of false make entries = refl
