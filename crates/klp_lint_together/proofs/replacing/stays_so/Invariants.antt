-- The manager is as before, and the variable was there, or missing, behind each shorter row of events that was tried.
use Rattle.std.proofs.Common.{ℕ, ◌<◌, ◌≤◌, take}
use Rattle.klp_lint_findings.specs.Claims.{IsThereBehind}
use Rattle.klp_lint_findings.specs.Standing.{standing}
use Rattle.klp_lint_together.specs.Kept.{IsAsBefore}
use Rattle.klp_lint_together.proofs.replacing.stays_so.Given as goal

abbrev pub invariant-loop-count : goal.invariant-loop-count
invariant-loop-count g l = record {
  so : (count : ℕ) → count < l.count → 2 ≤ count → IsThereBehind (standing l.fn.manager) (take count l.events) l.key l.is_wanted;
  kept : IsAsBefore l.fn.manager l.manager;
}
