use Rattle.std.proofs.Common.{◌≡◌, ℕ, ◌<◌, length, get_or, None}
use Rattle.klp_types.specs.declared.limits.TheConstants.{MAX_TASKS}
use Rattle.klp_model.specs.Task.{task_at}
use Rattle.klp_manager_state.specs.Managed.{setting_of}
use Rattle.klp_page.specs.Views.{stay_in}
use Rattle.klp_page.proofs.view.stays.Given as goal

-- each number so far has what its task shows
abbrev pub invariant-loop-number : goal.invariant-loop-number
invariant-loop-number g l =
    (length l.stays ≡ MAX_TASKS) × ((n : ℕ) → n < l.number → get_or l.stays n None
    ≡ stay_in (setting_of l.fn.manager.managed) l.fn.manager.managed.state (task_at l.fn.manager.managed.state.tasks n))
