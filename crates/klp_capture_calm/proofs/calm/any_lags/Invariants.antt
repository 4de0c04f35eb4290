use Rattle.std.proofs.Common.{◌≡◌, drop}
use Rattle.std.specs.List.{list_any}
use Rattle.klp_capture_calm.specs.Calm.{lags_in_run}
use Rattle.klp_capture_calm.proofs.calm.any_lags.Given as goal

-- the tasks so far don't lag
abbrev pub invariant-loop-task : goal.invariant-loop-task
invariant-loop-task l = list_any lags_in_run l.tasks ≡ list_any lags_in_run (drop l.task-index l.tasks)
