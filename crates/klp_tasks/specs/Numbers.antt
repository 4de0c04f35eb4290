-- The task numbers in use, one bit each.
use Rattle.std.specs.Prelude.{◌≡◌, ◌≢◌, ℕ, ◌<◌, is_some, if◌then◌else◌}
use Rattle.std.specs.Int.{bit_at}
use Rattle.klp_types.specs.declared.limits.TheConstants.{MAX_TASKS}
use Rattle.klp_model.specs.Task.{Tasks, task_at}

-- the set bits are exactly those of the numbers that have a task
pub record AreTaken (bits : ℕ) (tasks : Tasks) : Type 0 where
  pub each : (number : ℕ) → bit_at bits number ≡ if is_some (task_at tasks number) then 1 else 0

-- `number` is the lowest set bit of `before`, and `after` has all the others
pub record IsLowest (number before after : ℕ) : Type 0 where
  pub within : number < MAX_TASKS
  pub there : bit_at before number ≡ 1
  pub lowest : (other : ℕ) → other < number → bit_at before other ≡ 0
  pub gone : bit_at after number ≡ 0
  pub others : (other : ℕ) → other ≢ number → bit_at after other ≡ bit_at before other
  pub fewer : after < before
