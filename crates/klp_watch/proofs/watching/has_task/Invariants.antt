use Rattle.std.proofs.Common.{◌≡◌, ℕ, ◌<◌, false, length}
use Rattle.klp_types.specs.declared.limits.TheConstants.{MAX_TASKS}
use Rattle.klp_model.specs.Refusals.{is_there}
use Rattle.klp_watch.proofs.watching.has_task.Given as goal

-- no task of a smaller number is there
abbrev pub invariant-loop-number : goal.invariant-loop-number
invariant-loop-number g l = record {
  nobody : (task : ℕ) → task < l.number → is_there l.manager.managed.state task ≡ false;
  rows : 0 < l.number → length l.manager.managed.state.tasks ≡ MAX_TASKS;
}
