-- What runs of callbacks leave, and the room that they need.
use Rattle.std.specs.Prelude.{◌≡◌, ℕ, ◌+◌, ◌≤◌, Bool, true, false, List, [], ◌∷◌, length}
use Rattle.std.specs.List.{sum_by, All}
use Rattle.std.specs.FinMap as finite
use Rattle.klp_types.specs.declared.limits.TheConstants.{MAX_VARIABLES}
use Rattle.klp_types.specs.declared.record.Record.{Record}
use Rattle.klp_types.specs.Records.{RecordList}
use Rattle.klp_types.specs.Script.{alloc_count}
use Rattle.klp_types.specs.World.{World}
use Rattle.klp_types.specs.Callbacks.{Call, allocs_of, after_calls}
use Rattle.klp_world.specs.StoredEvent.{noting}
use Rattle.klp_world.specs.Undo.{undone, is_of_world, HaveEffects}
use Rattle.klp_catalog.specs.Catalog.{Catalog}
use Rattle.klp_catalog.specs.Runs.{after_runs}
use Rattle.klp_patch.specs.Loaded.{patches_in}

-- how many records these callbacks log at most: one for each edit, and one more for each edit that adds a variable. One
-- more for each shadow variable that is gone afterwards isn't counted here.
abbrev pub records_of : List Call → ℕ
records_of calls = sum_by (λ (c : Call). length c.script.edits + alloc_count c.script.edits) calls

-- whether the list has a callback
abbrev pub are_some : List Call → Bool
are_some [] = false
are_some (call ∷ calls) = true

-- these callbacks ran, in this order
pub record HaveRun (before after : Catalog) (world_before world_after : World) (log_before log_after : RecordList) (calls : List Call) : Type 0 where
  -- each run is counted
  pub catalog : after ≡ after_runs before calls
  -- the world is what the scripts make of it
  pub world : world_after ≡ after_calls world_before calls
  -- the same patches stay installed
  pub installed : patches_in world_after ≡ patches_in world_before
  -- at most as many shadow variables exist as existed before, plus those that the callbacks add
  pub variables : finite.len world_after.shadow ≤ finite.len world_before.shadow + allocs_of calls
  -- each row that changed is logged as it was before, behind the records of the log, and no other row is logged
  pub rows : List Record
  pub logged : log_after ≡ noting log_before rows
  pub of_world : All (λ row. is_of_world row ≡ true) rows
  -- the new records, put back newest first, give the world before
  pub undo : undone world_after rows ≡ world_before
  -- each of the new records has an effect at its turn
  pub effective : HaveEffects world_after rows
  -- at most as many records are logged as `records_of` says, plus one for each shadow variable that is gone
  pub records : length log_after.logged + finite.len world_after.shadow ≤ length log_before.logged + finite.len world_before.shadow + records_of calls
  pub room : log_after.room ≡ log_before.room

-- the log has room for the records of these callbacks, and the world for the shadow variables that they add
pub record HasRoomFor (world : World) (log : RecordList) (calls : List Call) : Type 0 where
  pub variables : finite.len world.shadow + allocs_of calls ≤ MAX_VARIABLES
  pub records : length log.logged + finite.len world.shadow + records_of calls ≤ log.room
