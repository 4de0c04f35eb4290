-- No event before the search was taken back.
use Rattle.std.proofs.Common.{◌≡◌, length}
use Rattle.klp_core.specs.Journaled.{Journaled}
use Rattle.klp_lint_together.specs.Kept.{IsFurther}
use Rattle.klp_lint_together.proofs.orders.search_all.Given as goal

abbrev pub invariant-steps : goal.invariant-steps
invariant-steps g l = record {
  mark : l.search.mark ≡ l.fn.search.mark;
  further : (start : Journaled) → length start.groups ≡ l.fn.search.mark → IsFurther start l.fn.manager → IsFurther start l.manager;
}
