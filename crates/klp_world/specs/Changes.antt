-- When a change of the world is right, and the room that it needs.
use Rattle.std.specs.Prelude.{◌≡◌, ℕ, ◌+◌, ◌≤◌, List, length}
use Rattle.std.specs.FinMap as finite
use Rattle.klp_types.specs.declared.record.Record.{Record}
use Rattle.klp_types.specs.declared.limits.TheConstants.{MAX_VARIABLES}
use Rattle.klp_types.specs.Records.{RecordList, spare_of}
use Rattle.klp_types.specs.World.{World}
use Rattle.klp_world.specs.StoredEvent.{noting}
use Rattle.klp_world.specs.Undo.{undone, HaveEffects}

-- a change turns the world `before` into `after`, and logs these rows
pub record Changes (before after : World) (log_before log_after : RecordList) (to : World) (rows : List Record) : Type 0 where
  -- the world after is exactly the intended one
  pub world : after ≡ to
  -- each row that changed is logged as it was, after the older records
  pub records : log_after ≡ noting log_before rows
  -- these records, put back newest first, restore the world before
  pub undo : undone after rows ≡ before
  -- each of them, put back in its turn, changes the world
  pub effective : HaveEffects after rows

-- there is room for a change that adds at most `allocs` shadow variables and logs these rows
pub record HasRoom (world : World) (log : RecordList) (allocs : ℕ) (rows : List Record) : Type 0 where
  -- room for the existing variables and those that are added
  pub variables : finite.len world.shadow + allocs ≤ MAX_VARIABLES
  -- room for one record of each row
  pub records : length rows ≤ spare_of log
