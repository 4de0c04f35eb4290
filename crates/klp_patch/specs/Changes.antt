-- The entries of sites after a patch was put on them or taken out, and the records that these changes log.
use Rattle.std.specs.Prelude.{◌≡◌, ℕ, ◌+◌, ◌≤◌, Bool, true, not, ◌==◌, ◌&&◌, ◌||◌, List, ◌∷◌, ◌++◌, None, length, filter, is_none, if◌then◌else◌}
use Rattle.std.specs.List.{All, count_by}
use Rattle.klp_types.specs.declared.record.Record.{Record}
use Rattle.klp_types.specs.declared.version.Entry.{Entry}
use Rattle.klp_types.specs.Setting.{function_for}
use Rattle.klp_types.specs.Entries.{entry_of, is_empty}
use Rattle.klp_types.specs.Records.{RecordList}
use Rattle.klp_catalog.specs.Catalog.{Catalog}
use Rattle.klp_catalog.specs.States.{is_cumulative}
use Rattle.klp_stack.specs.Stack.{entries_at, has_entry}
use Rattle.klp_sites.specs.Table.{SiteTable, is_stacked}
use Rattle.klp_sites.specs.Changes.{noting}
use Rattle.klp_sites.specs.Undo.{is_of_sites, undone, have_effects}
use Rattle.klp_patch.specs.Covered.{functions_in}

-- the entries of a site once a patch is put on it: on top its function, or a nop if it is cumulative and the site has
-- entries
abbrev pub with_entry : Catalog → ℕ → ℕ → List Entry → List Entry
with_entry catalog patch site entries =
    entry_of patch (function_for (functions_in catalog patch) site) (is_cumulative catalog patch && not (is_empty entries)) ++ entries

-- puts a nop of the patch on top, if there are entries but none of the patch
abbrev pub with_nop : ℕ → List Entry → List Entry
with_nop patch entries = if is_empty entries || has_entry patch entries then entries else record { patch = patch; func = None } ∷ entries

-- the entries without a nop of this patch
abbrev pub without_nop : ℕ → List Entry → List Entry
without_nop patch entries = filter (λ (e : Entry). not (e.patch == patch && is_none e.func)) entries

-- each site that the change covers has the entries that `made` gives, and nothing else changes
pub record AreMade (before after : SiteTable) (covers : ℕ → Bool) (made : ℕ → List Entry → List Entry) : Type 0 where
  pub image : after.image ≡ before.image
  pub loaded : after.loaded ≡ before.loaded
  pub entries : (site : ℕ) → entries_at after.stacks site
      ≡ (if covers site then made site (entries_at before.stacks site) else entries_at before.stacks site)

-- how many sites are hooked
abbrev pub hooked_count : SiteTable → ℕ
hooked_count table = count_by is_stacked table.stacks

-- how many entries a patch has at most: one for each function, and, if it is cumulative, a nop for each site
abbrev pub most_entries : Catalog → ℕ → SiteTable → ℕ
most_entries catalog patch table = length (functions_in catalog patch) + (if is_cumulative catalog patch then length table.stacks else 0)

-- The change logged each row as it was before, behind the records of the log: at most `most` entries, and one record
-- for each site that was hooked or unhooked. For a change that hooks sites, `from` is how many were hooked before and
-- `to` how many are hooked afterwards; for a change that unhooks sites it is the other way round.
pub record Notes (before after : SiteTable) (log_before log_after : RecordList) (most from to : ℕ) : Type 0 where
  pub rows : List Record
  pub logged : log_after ≡ noting log_before rows
  pub of_sites : All (λ row. is_of_sites row ≡ true) rows
  -- put back newest first, they give the table before
  pub undo : undone after rows ≡ before
  -- each of them has an effect at its turn
  pub effective : have_effects after rows ≡ true
  pub few : length rows + from ≤ most + to
