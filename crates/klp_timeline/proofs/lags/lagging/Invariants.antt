use Rattle.std.proofs.Common.{◌≡◌, ◌++◌, ◌≤◌, drop, length}
use Rattle.klp_timeline.specs.Lagging.{lagging_from}
use Rattle.klp_timeline.proofs.lags.lagging.Given as goal

-- the tasks so far, and those that are left
abbrev pub invariant-loop-task : goal.invariant-loop-task
invariant-loop-task l = (length l.tasks ≤ l.task)
    × (l.tasks ++ lagging_from l.fn.mode l.task (drop l.task l.fn.waits) ≡ lagging_from l.fn.mode 0 l.fn.waits)
