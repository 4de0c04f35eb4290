-- The manager is as before.
use Rattle.klp_lint_together.specs.Kept.{IsAsBefore}
use Rattle.klp_lint_together.proofs.twice.twice_added.Given as goal

abbrev pub invariant-loop-target : goal.invariant-loop-target
invariant-loop-target g l = IsAsBefore l.fn.manager l.manager
