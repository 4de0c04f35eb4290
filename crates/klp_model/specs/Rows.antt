-- What a call at a hooked site needs to know: the two newest entries of each site with their addresses.
use Rattle.std.specs.Prelude.{ℕ, Bool, false, ◌==◌, option_map, List, [], ◌∷◌, Option, Some, None, unwrap_or, if◌then◌else◌}
use Rattle.klp_types.specs.declared.version.Version.TheVariants.{Original}
use Rattle.klp_types.specs.declared.version.Entry.{Entry}
use Rattle.klp_types.specs.declared.version.Transition.{Transition}
use Rattle.klp_types.specs.Setting.{Setting}
use Rattle.klp_types.specs.Pick.{newest_version, address_of}
use Rattle.klp_types.specs.declared.row.SiteWord.{SiteWord}
use Rattle.klp_types.specs.declared.row.SiteRow.{SiteRow}
use Rattle.klp_model.specs.State.{State}
use Rattle.klp_model.specs.Entries.{is_site_loaded, entries_of}

abbrev pub newest : List Entry → Option Entry
newest [] = None
newest (entry ∷ older) = Some entry

abbrev pub older_than_newest : List Entry → List Entry
older_than_newest [] = []
older_than_newest (entry ∷ older) = older

-- the patch in transition, if any
abbrev pub moving_patch : Option Transition → Option ℕ
moving_patch moving = option_map (λ (m : Transition). m.patch) moving

-- whether the newest entry is of the patch in transition
abbrev pub newest_moves : Option ℕ → Option Entry → Bool
newest_moves (Some patch) (Some entry) = patch == entry.patch
newest_moves moving newest = false

-- the two newest entries, and whether the newest one's patch is in transition
abbrev pub word_of : Option ℕ → List Entry → SiteWord
word_of moving entries =
    record { top = newest entries; below = newest (older_than_newest entries); moves = newest_moves moving (newest entries) }

-- the address of the version of the newest of these entries; the original's if there is no entry, or for a nop
abbrev pub newest_address : Setting → ℕ → List Entry → ℕ
newest_address setting site entries = unwrap_or (address_of setting (newest_version site entries)) 0

abbrev pub row_among : Setting → Option Transition → ℕ → List Entry → SiteRow
row_among setting moving site entries = record {
  word = word_of (moving_patch moving) entries;
  original = unwrap_or (address_of setting (Original site)) 0;
  top = newest_address setting site entries;
  below = newest_address setting site (older_than_newest entries);
}

-- the row of a site; None if its object isn't loaded
abbrev pub row_of : Setting → State → ℕ → Option SiteRow
row_of setting state site =
    if is_site_loaded setting state site then Some (row_among setting state.moving site (entries_of setting state site)) else None
