use Rattle.std.proofs.Common.{◌≡◌, ℕ, ◌<◌, length, get_or, None}
use Rattle.klp_types.specs.declared.limits.TheConstants.{MAX_TASKS}
use Rattle.klp_model.specs.Task.{task_at}
use Rattle.klp_tasks.specs.Members.{has}
use Rattle.klp_core.specs.Holders.{lag_at}
use Rattle.klp_core.proofs.holders.lags.Given as goal

-- each number so far has the lag of its task
abbrev pub invariant-loop-number : goal.invariant-loop-number
invariant-loop-number l =
    (length l.lags ≡ MAX_TASKS) × ((n : ℕ) → n < l.number → get_or l.lags n None ≡ lag_at (has l.blocked) l.moving (task_at l.tasks n))
