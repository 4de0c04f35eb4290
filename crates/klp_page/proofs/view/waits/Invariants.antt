use Rattle.std.proofs.Common.{◌≡◌, ℕ, ◌<◌, length, get_or, None}
use Rattle.klp_types.specs.declared.limits.TheConstants.{MAX_TASKS}
use Rattle.klp_page.specs.Views.{wait_by}
use Rattle.klp_page.proofs.view.waits.Given as goal

-- each number so far has its own
abbrev pub invariant-loop-number : goal.invariant-loop-number
invariant-loop-number l = (length l.waits ≡ MAX_TASKS) × ((n : ℕ) → n < l.number → get_or l.waits n None ≡ wait_by (get_or l.lags n None))
