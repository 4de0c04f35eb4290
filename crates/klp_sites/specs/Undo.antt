-- Undo: a record, put back, restores one entry or one object's loaded flag.
use Rattle.std.specs.Prelude.{ℕ, Bool, true, false, not, ◌==◌, ◌&&◌, nat_lt, List, [], ◌∷◌, length, slice_set, Option, Some, None, is_none, slice_index_or, if◌then◌else◌}
use Rattle.std.specs.Bool.{beq}
use Rattle.klp_types.specs.declared.record.Record.{Record}
use Rattle.klp_types.specs.declared.record.Record.TheVariants.{StackEntry, HookFlag, LoadedFlag}
use Rattle.klp_stack.specs.Spare.{spare_in}
use Rattle.klp_stack.specs.Undo as of_stacks
use Rattle.klp_stack.specs.Stack.{entries_at, has_entry}
use Rattle.klp_sites.specs.Table.{SiteTable, is_hooked_at}

-- the table with an object loaded or not; the same table if there is no such object
abbrev pub put_loaded : SiteTable → ℕ → Bool → SiteTable
put_loaded table object was =
    if nat_lt object (length table.image.objects) then record table { loaded = slice_set table.loaded object was } else table

-- the table with one row restored from the record. The record of a hook changes nothing, since the hook of a site
-- follows its entries; nor does a record of a row that isn't the table's
abbrev pub put_back : SiteTable → Record → SiteTable
put_back table (StackEntry site patch was) = record table { stacks = of_stacks.put_back table.stacks (StackEntry site patch was) }
put_back table (LoadedFlag object was) = put_loaded table object was
put_back table other = table

-- whether the record is of a site: of an entry or of a hook
abbrev pub is_of_sites : Record → Bool
is_of_sites (StackEntry site patch was) = true
is_of_sites (HookFlag site was) = true
is_of_sites other = false

-- the table after all records of the list are put back, from the last to the first; the last is the newest
abbrev pub undone : SiteTable → List Record → SiteTable
undone table [] = table
undone table (row ∷ newer) = put_back (undone table newer) row

-- whether a record can be put back: an entry that existed needs room for one more
abbrev pub is_due : SiteTable → Record → Bool
is_due table (StackEntry site patch (Some place)) = nat_lt 0 (spare_in table.stacks)
is_due table other = true

-- whether all records can be put back, each in its turn, on the table that the newer ones leave
abbrev pub are_due : SiteTable → List Record → Bool
are_due table [] = true
are_due table (row ∷ newer) = is_due (undone table newer) row && are_due table newer

-- the site that a hook's record is of, and whether it was hooked; None for other records
abbrev pub hook_of : Record → Option (ℕ × Bool)
hook_of (HookFlag site was) = Some (site, was)
hook_of other = None

-- the same for the first record of a list
abbrev pub first_hook : List Record → Option (ℕ × Bool)
first_hook [] = None
first_hook (row ∷ newer) = hook_of row

-- whether the record after an entry's is right about the hook. If putting the entry back changes the hook from
-- `now` to `back`, that record is the hook's and has `back`; else there is no hook's record
abbrev pub is_its_hook : ℕ → Bool → Bool → Option (ℕ × Bool) → Bool
is_its_hook site now back None = beq now back
is_its_hook site now back (Some hook) = (hook.0 == site) && (not (beq now back) && beq hook.1 back)

-- whether a record, put back, changes its row, given the hook's record that follows it, if any. An entry's record
-- can be put back, and adds or removes the patch's entry; a loaded flag's has the other flag. A hook's record
-- follows only an entry's
abbrev pub is_exact : SiteTable → Record → Option (ℕ × Bool) → Bool
is_exact table (StackEntry site patch was) hook =
    let back = put_back table (StackEntry site patch was) in
    is_due table (StackEntry site patch was)
    && (not (beq (has_entry patch (entries_at table.stacks site)) (has_entry patch (entries_at back.stacks site)))
    && is_its_hook site (is_hooked_at table.stacks site) (is_hooked_at back.stacks site) hook)
is_exact table (LoadedFlag object was) hook = is_none hook && not (beq (slice_index_or table.loaded object false) was)
is_exact table other hook = is_none hook

-- whether each record of a list is exact in its turn, on the table that the newer ones leave
abbrev pub are_exact : SiteTable → List Record → Bool
are_exact table [] = true
are_exact table (row ∷ newer) = is_exact (undone table newer) row (first_hook newer) && are_exact table newer

-- whether each record, put back, changes its row, and the oldest isn't a hook's, which would have no entry's record
-- before it. Records of rows that aren't the table's may be among them
unfoldable pub has_effect : SiteTable → Record → List Record → Bool
has_effect table oldest newer = are_exact table (oldest ∷ newer) && is_none (hook_of oldest)

-- the same for any list; true of the empty one
abbrev pub have_effects : SiteTable → List Record → Bool
have_effects table [] = true
have_effects table (oldest ∷ newer) = has_effect table oldest newer
