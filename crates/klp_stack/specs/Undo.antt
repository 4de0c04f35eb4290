-- Undo: a record, put back, restores the entry of one patch on one stack, or takes it out.
use Rattle.std.specs.Prelude.{ℕ, ◌-◌, Bool, not, ◌&&◌, nat_lt, nat_le, false, List, length, insert, slice_set, Option, Some, None, is_some, if◌then◌else◌}
use Rattle.klp_types.specs.declared.limits.TheConstants.{MAX_PATCHES}
use Rattle.klp_types.specs.declared.record.Place.{Place}
use Rattle.klp_types.specs.declared.record.Record.{Record}
use Rattle.klp_types.specs.declared.record.Record.TheVariants.{StackEntry}
use Rattle.klp_types.specs.declared.version.Entry.{Entry}
use Rattle.klp_stack.specs.Stack.{entries_at, has_entry, entries_of_others}

-- whether the patch may get an entry at this index, counted from the oldest
abbrev pub may_be_at : ℕ → ℕ → List Entry → Bool
may_be_at patch index entries = nat_lt patch MAX_PATCHES && not (has_entry patch entries) && nat_le index (length entries)

-- the entries with one more at this index, counted from the oldest
abbrev pub put_at : ℕ → Entry → List Entry → List Entry
put_at index entry entries = insert entries (length entries - index) entry

-- the entries of a site with the patch's entry taken out (None), or put back at its place if it may be there
abbrev pub put_entry : ℕ → Option Place → List Entry → List Entry
put_entry patch None entries = entries_of_others patch entries
put_entry patch (Some place) entries =
    if may_be_at patch place.index entries then put_at place.index (record { patch = patch; func = place.func }) entries else entries

-- the stacks with one entry restored from the record; a record of another kind changes nothing
abbrev pub put_back : List (List Entry) → Record → List (List Entry)
put_back stacks (StackEntry site patch was) = slice_set stacks site (put_entry patch was (entries_at stacks site))
put_back stacks other = stacks

-- whether a record, put back, needs a free slot: one of an entry that existed
abbrev pub takes_room : Record → Bool
takes_room (StackEntry site patch was) = is_some was
takes_room other = false
