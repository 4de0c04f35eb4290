-- What the records of an event tell, as states show it.
use Rattle.std.proofs.Common.{◌≡◌, ℕ, suc, ◌+◌, true, false, cond, ltb, List, [], ◌∷◌, length, set, Some, refl, sym, ap, ◌∙◌, arith, add-zero, zero-add}
use Rattle.std.specs.Prelude.{Ok}
use Rattle.std.proofs.lemmas.List.{length-set}
use Rattle.klp_types.specs.declared.record.Record.{Record}
use Rattle.klp_types.specs.declared.record.Record.TheVariants.{StackEntry, LoadedFlag}
use Rattle.klp_types.specs.declared.version.Entry.{Entry}
use Rattle.klp_types.specs.Image.{Symbol, symbols_of}
use Rattle.klp_types.specs.Setting.{Setting}
use Rattle.klp_text.specs.TextImage.{site_count}
use Rattle.klp_model.specs.declared.event.Event.{Event}
use Rattle.klp_model.specs.declared.event.Reply.{Reply}
use Rattle.klp_model.specs.Entries.{entries_of}
use Rattle.klp_model.specs.Run.{next}
use Rattle.klp_model.specs.State.{State}
use Rattle.klp_stack.specs.Stack.{entries_at}
use Rattle.klp_stack.specs.Undo.{put_entry}
use Rattle.klp_sites.specs.Table.{SiteTable}
use Rattle.klp_sites.specs.Undo as of_sites
use Rattle.klp_catalog.specs.Catalog.{Catalog}
use Rattle.klp_manager_state.specs.declared.state.ManagerState.{ManagerState}
use Rattle.klp_manager_state.specs.Events.{TakesEvent}
use Rattle.klp_manager_state.specs.Invariant.{Invariant}
use Rattle.klp_manager_state.specs.Managed.{Managed, setting_of, setting_in, state_in}
use Rattle.klp_manager_state.specs.Rows.{Rows, rows_in, undone, undone_if_effective}
use Rattle.klp_manager_state.proofs.RowLemmas.{given_back}
use Rattle.klp_core.specs.Journaled.{stacks_from, rows_of}

-- stacks that have the entries of these sites are those of the state
stacks_are : (setting : Setting) (state : State) (start : ℕ) (stacks : List (List Entry)) (symbols : List Symbol) → length stacks ≡ length symbols
    → ((site : ℕ) → entries_at stacks site ≡ entries_of setting state (start + site)) → stacks ≡ stacks_from setting state start symbols
stacks_are setting state start [] [] count each = refl
stacks_are setting state start [] (symbol ∷ symbols) count each = absurd (omega arith)
stacks_are setting state start (first ∷ stacks) [] count each = absurd (omega arith)
stacks_are setting state start (first ∷ stacks) (symbol ∷ symbols) count each =
    let own : first ≡ entries_of setting state start = each 0 ∙ ap (entries_of setting state) (add-zero start) in
    let rest = stacks_are setting state (suc start) stacks symbols (omega arith)
    (λ site. let place : start + suc site ≡ suc start + site = omega arith in each (suc site) ∙ ap (entries_of setting state) place) in
    λ i. own i ∷ rest i

-- the rows of a manager are those of its state
rows_are : (manager : ManagerState) (catalog : Catalog) → Invariant manager catalog → length manager.sites.stacks ≡ site_count manager.sites.image
    → rows_in manager ≡ rows_of (setting_in manager catalog) (state_in manager catalog)
unfolding rows_of
rows_are manager catalog holds count =
    let setting = setting_in manager catalog in
    let state = state_in manager catalog in
    let rows : Rows = rows_in manager in
    ap (λ stacks. record rows { sites = record rows.sites { stacks = stacks } })
    (stacks_are setting state 0 manager.sites.stacks (symbols_of manager.sites.image.objects) count
    (λ site. holds.entries site ∙ ap (entries_of setting state) (sym (zero-add site))))

-- records put back leave the number of sites, and the image
row_keeps : (table : SiteTable) (row : Record) → length (of_sites.put_back table row).stacks ≡ length table.stacks
row_keeps table (StackEntry site patch was) = length-set table.stacks site (put_entry patch was (entries_at table.stacks site))
row_keeps table (LoadedFlag object was) = elim (ltb object (length table.image.objects)) as
    (λ b. length (cond b (record table { loaded = set table.loaded object was }) table).stacks ≡ length table.stacks) [ true ↦ refl | false ↦ refl ]
row_keeps table other = refl

rows_keep : (rows : Rows) (records : List Record) → length (undone rows records).sites.stacks ≡ length rows.sites.stacks
rows_keep rows [] = refl
rows_keep rows (row ∷ newer) = row_keeps (undone rows newer).sites row ∙ rows_keep rows newer

-- what an accepted event logged leads from the rows of the state after it to those of the state before
pub logged_effective : (before after : ManagerState) (catalog now : Catalog) (event : Event) (reply : Reply) → Invariant before catalog
    → length after.sites.stacks ≡ site_count after.sites.image → TakesEvent before after catalog now event (Ok reply) → undone_if_effective (rows_in after) after.log.logged ≡ Some (rows_in before)
    → undone_if_effective (rows_of (setting_in before catalog) (next (setting_in before catalog) (state_in before catalog) event)) after.log.logged
    ≡ Some (rows_of (setting_in before catalog) (state_in before catalog))
logged_effective before after catalog now event reply holds count taken logged =
    let left = taken.takes.left in
    let setting : setting_in after now ≡ setting_in before catalog = ap setting_of left in
    let state : state_in after now ≡ next (setting_in before catalog) (state_in before catalog) event = ap (λ (m : Managed). m.state) left in
    let image = ap (λ (m : Managed). site_count m.image) left in
    let back = (given_back (rows_in after) (rows_in before) after.log.logged logged).0 in
    let sites = ap (λ (r : Rows). length r.sites.stacks) (sym back) ∙ rows_keep (rows_in after) after.log.logged in
    let before_count : length before.sites.stacks ≡ site_count before.sites.image = sites ∙ count ∙ image in
    ap (λ r. undone_if_effective r after.log.logged)
    (ap (λ (s : Setting). rows_of s (next (setting_in before catalog) (state_in before catalog) event)) (sym setting)
    ∙ ap (rows_of (setting_in after now)) (sym state) ∙ sym (rows_are after now taken.kept count))
    ∙ logged ∙ ap Some (rows_are before catalog holds before_count)
