-- The room that callbacks need.
use Rattle.std.proofs.Common.{◌≡◌, ℕ, ◌+◌, ◌≤◌, true, false, List, length, ltb, ltb-false, ap, arith}
use Rattle.std.specs.Prelude.{slice_index_or, ◌++◌, if◌then◌else◌}
use Rattle.std.proofs.lemmas.List.{length-append}
use Rattle.std.proofs.lemmas.List.Sums.{count_by-le-length, sum_by-append}
use Rattle.klp_types.specs.Script.{alloc_count}
use Rattle.std.specs.FinMap as finite
use Rattle.klp_types.specs.declared.limits.TheConstants.{MAX_VARIABLES, MAX_RECORDS, MAX_SITES, MAX_FUNCTIONS}
use Rattle.klp_types.specs.World.{World}
use Rattle.klp_types.specs.Records.{RecordList}
use Rattle.klp_types.specs.Callbacks.{Call, allocs_of}
use Rattle.klp_model.specs.Callbacks.{loaded_objects}
use Rattle.klp_modules.specs.Names.{ModuleTable}
use Rattle.klp_catalog.specs.Catalog.{Catalog}
use Rattle.klp_catalog.specs.Runs.{objects_at}
use Rattle.klp_patch.specs.Calls.{HasRoomFor, records_of}
use Rattle.klp_patch.specs.Loaded.{loaded_in, loaded_from}
use Rattle.klp_catalog.specs.States.{is_cumulative}
use Rattle.klp_sites.specs.Table.{SiteTable, is_stacked}
use Rattle.klp_patch.specs.Covered.{functions_in}
use Rattle.klp_patch.specs.Changes.{Notes, hooked_count, most_entries}
use Rattle.klp_manager_state.specs.declared.state.ManagerState.{ManagerState}
use Rattle.klp_manager_state.specs.Invariant.{Invariant}
use Rattle.klp_manager_state.specs.Managed.{setting_in, state_in}

-- the loaded objects of a patch are those that the state tells
pub same_objects : (parts : ManagerState) (catalog : Catalog) (patch : ℕ) → Invariant parts catalog
    → loaded_in catalog parts.modules patch ≡ loaded_objects (setting_in parts catalog) (state_in parts catalog) patch
same_objects parts catalog patch holds =
    ap (λ (m : ModuleTable). loaded_from (λ object. slice_index_or m.loaded object false) 0 (objects_at catalog patch)) holds.modules_are

-- callbacks that note few records find room where the records are emptied before
pub room_for : (world : World) (log : RecordList) (calls : List Call) (most : ℕ) → ltb MAX_VARIABLES (finite.len world.shadow + allocs_of calls) ≡ false
    → records_of calls ≤ most → most ≤ 3584 → length log.logged ≡ 0 → log.room ≡ MAX_RECORDS → HasRoomFor world log calls
room_for world log calls most fits few short empty room =
    let variables = ltb-false MAX_VARIABLES (finite.len world.shadow + allocs_of calls) fits in
    record { variables = variables; records = omega (arith, variables, few, short, empty, room) }

-- callbacks after others

pub allocs-append : (calls others : List Call) → allocs_of (calls ++ others) ≡ allocs_of calls + allocs_of others
allocs-append = sum_by-append (λ (c : Call). alloc_count c.script.edits)

pub records-append : (calls others : List Call) → records_of (calls ++ others) ≡ records_of calls + records_of others
records-append = sum_by-append (λ (c : Call). length c.script.edits + alloc_count c.script.edits)

-- the same of a world with the same shadow variables
pub room_with : (world : World) (log : RecordList) (calls : List Call) (shadow : ℕ) → finite.len world.shadow ≡ shadow
    → ltb MAX_VARIABLES (shadow + allocs_of calls) ≡ false → records_of calls ≤ 512 → length log.logged ≤ 17 → log.room ≡ MAX_RECORDS → HasRoomFor world log calls
room_with world log calls shadow same fits few logged room =
    let variables = ltb-false MAX_VARIABLES (shadow + allocs_of calls) fits in
    record { variables = omega (arith, variables, same); records = omega (arith, variables, same, few, logged, room) }

-- of changes that set or clear few hooks few rows are logged
pub few_logged : (before after : SiteTable) (one other : RecordList) (most : ℕ) → Notes before after one other most (hooked_count before) (hooked_count after)
    → length after.stacks ≤ MAX_SITES → length other.logged ≤ length one.logged + most + MAX_SITES
few_logged before after one other most notes sites =
    let logged = ap (λ (l : RecordList). length l.logged) notes.logged in
    let both = length-append one.logged notes.rows in
    let hooks = count_by-le-length is_stacked after.stacks in
    omega (arith, logged, both, notes.few, hooks, sites)

pub few_logged_back : (before after : SiteTable) (one other : RecordList) (most : ℕ) → Notes before after one other most (hooked_count after) (hooked_count before)
    → length before.stacks ≤ MAX_SITES → length other.logged ≤ length one.logged + most + MAX_SITES
few_logged_back before after one other most notes sites =
    let logged = ap (λ (l : RecordList). length l.logged) notes.logged in
    let both = length-append one.logged notes.rows in
    let hooks = count_by-le-length is_stacked before.stacks in
    omega (arith, logged, both, notes.few, hooks, sites)

-- how many entries a patch has at most
pub most_at : (catalog : Catalog) (patch : ℕ) (table : SiteTable) → length (functions_in catalog patch) ≤ MAX_FUNCTIONS → length table.stacks ≤ MAX_SITES
    → most_entries catalog patch table ≤ MAX_FUNCTIONS + MAX_SITES
most_at catalog patch table functions sites =
    elim (is_cumulative catalog patch) as (λ b. length (functions_in catalog patch) + (if b then length table.stacks else 0) ≤ MAX_FUNCTIONS + MAX_SITES) [
      | true ↦ omega (arith, functions, sites)
      | false ↦ omega (arith, functions)
    ]
