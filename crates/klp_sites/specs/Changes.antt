-- When a change of the table is right, and which rows each change logs.
use Rattle.std.specs.Prelude.{◌≡◌, ℕ, Bool, true, false, List, [], ◌∷◌, ◌++◌, slice_set, Option, Some, None, if◌then◌else◌}
use Rattle.klp_types.specs.declared.record.Place.{Place}
use Rattle.klp_types.specs.declared.record.Record.{Record}
use Rattle.klp_types.specs.declared.record.Record.TheVariants.{StackEntry, HookFlag}
use Rattle.klp_types.specs.declared.version.Entry.{Entry}
use Rattle.klp_types.specs.Entries.{is_empty}
use Rattle.klp_types.specs.Records.{RecordList}
use Rattle.klp_stack.specs.Stack.{entries_at, entries_of_others, place_of}
use Rattle.klp_sites.specs.Table.{SiteTable}
use Rattle.klp_sites.specs.Undo.{undone, are_due}

-- the table with these entries at a site
abbrev pub with_entries : SiteTable → ℕ → List Entry → SiteTable
with_entries table site entries = record table { stacks = slice_set table.stacks site entries }

-- the table after an entry is put on top of a site's stack
abbrev pub pushed : SiteTable → ℕ → Entry → SiteTable
pushed table site entry = with_entries table site (entry ∷ entries_at table.stacks site)

-- the table after the entry of a patch is taken out of a site's stack
abbrev pub taken : SiteTable → ℕ → ℕ → SiteTable
taken table site patch = with_entries table site (entries_of_others patch (entries_at table.stacks site))

-- the records that a push logs: the patch had no entry there; and if the entry is the site's first, the site wasn't
-- hooked
abbrev pub rows_of_push : SiteTable → ℕ → Entry → List Record
rows_of_push table site entry =
    StackEntry site entry.patch None ∷ (if is_empty (entries_at table.stacks site) then HookFlag site false ∷ [] else [])

-- the records that are logged when an entry is taken out: the entry with its place; and if it is the site's last,
-- that the site was hooked. None if the patch has no entry there
abbrev pub rows_of_taken : ℕ → ℕ → Option Place → Bool → List Record
rows_of_taken site patch None is_last = []
rows_of_taken site patch (Some place) is_last = StackEntry site patch (Some place) ∷ (if is_last then HookFlag site true ∷ [] else [])

-- the records that taking out a patch's entry logs
abbrev pub rows_of_take : SiteTable → ℕ → ℕ → List Record
rows_of_take table site patch =
    let entries = entries_at table.stacks site in
    rows_of_taken site patch (place_of patch entries) (is_empty (entries_of_others patch entries))

-- the list of records with these appended
abbrev pub noting : RecordList → List Record → RecordList
noting records rows = record records { logged = records.logged ++ rows }

-- a change turns the table `before` into `after`, and logs these rows
pub record Changes (before after : SiteTable) (log_before log_after : RecordList) (to : SiteTable) (rows : List Record) : Type 0 where
  -- the table after is exactly the intended one
  pub table : after ≡ to
  -- each row that changed is logged as it was, after the older records
  pub records : log_after ≡ noting log_before rows
  -- these records, put back newest first, restore the table before
  pub undo : undone after rows ≡ before
  -- each of them can be put back in its turn
  pub due : are_due after rows ≡ true
