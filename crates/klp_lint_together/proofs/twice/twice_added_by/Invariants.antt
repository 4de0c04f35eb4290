-- The manager is as before.
use Rattle.klp_lint_together.specs.Kept.{IsAsBefore}
use Rattle.klp_lint_together.proofs.twice.twice_added_by.Given as goal

abbrev pub invariant-loop-edit : goal.invariant-loop-edit
invariant-loop-edit g l = IsAsBefore l.fn.manager l.manager
