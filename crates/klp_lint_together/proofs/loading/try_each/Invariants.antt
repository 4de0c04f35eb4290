-- No event before the loading was taken back.
use Rattle.klp_lint_together.specs.Kept.{IsFurther}
use Rattle.klp_lint_together.proofs.loading.try_each.Given as goal

abbrev pub invariant-loop-patch : goal.invariant-loop-patch
invariant-loop-patch g l = IsFurther l.fn.manager l.manager
