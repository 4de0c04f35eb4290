-- The entries of one site, newest first.
use Rattle.std.specs.Prelude.{◌≡◌, ℕ, ◌<◌, Bool, false, not, ◌==◌, List, [], ◌∷◌, length, filter, slice_index_or, Option, Some, None, if◌then◌else◌}
use Rattle.std.specs.List.{list_any}
use Rattle.klp_types.specs.declared.limits.TheConstants.{MAX_PATCHES}
use Rattle.klp_types.specs.declared.record.Place.{Place}
use Rattle.klp_types.specs.declared.version.Entry.{Entry}

-- the entries of a site; none if there is no such site
abbrev pub entries_at : List (List Entry) → ℕ → List Entry
entries_at stacks site = slice_index_or stacks site []

-- whether a patch has an entry
abbrev pub has_entry : ℕ → List Entry → Bool
has_entry patch entries = list_any (λ (e : Entry). e.patch == patch) entries

-- the entries without those of the patch
abbrev pub entries_of_others : ℕ → List Entry → List Entry
entries_of_others patch entries = filter (λ (e : Entry). not (e.patch == patch)) entries

-- the place of a patch's entry: its index counted from the oldest, and what the entry does; None if it has no entry
abbrev pub place_of : ℕ → List Entry → Option Place
place_of patch [] = None
place_of patch (entry ∷ older) = if entry.patch == patch then Some (record { index = length older; func = entry.func }) else place_of patch older

-- each patch has at most one entry, and its number is below the limit; so a stack has at most that many entries
abbrev pub IsStack : List Entry → Type 0
IsStack [] = Unit {0}
IsStack (entry ∷ older) = (entry.patch < MAX_PATCHES) × (has_entry entry.patch older ≡ false) × IsStack older
