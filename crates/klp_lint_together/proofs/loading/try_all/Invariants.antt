-- The manager is as before.
use Rattle.klp_lint_together.specs.Kept.{IsAsBefore}
use Rattle.klp_lint_together.proofs.loading.try_all.Given as goal

abbrev pub invariant-loop-number : goal.invariant-loop-number
invariant-loop-number g l = IsAsBefore l.fn.manager l.manager
