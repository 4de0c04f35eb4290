-- The patches below this number can be loaded, or it is told that they can't, and what was found so far is true.
use Rattle.std.proofs.Common.{ℕ, ◌<◌, ◌≤◌, length}
use Rattle.klp_manager_state.specs.Managed.{setting_of}
use Rattle.klp_lint_findings.specs.Claims.{AddsTrue}
use Rattle.klp_lint_findings.specs.Standing.{standing}
use Rattle.klp_lint_together.specs.Kept.{IsAsBefore}
use Rattle.klp_lint_together.specs.Starting.{StartsUnlessReported}
use Rattle.klp_lint_together.proofs.starting.find_each_alone.Given as goal

abbrev pub invariant-loop-number : goal.invariant-loop-number
invariant-loop-number g l = record {
  starts : length l.fn.found.linted.patches.now ≤ 256 → (patch : ℕ) → patch < l.number
      → StartsUnlessReported (setting_of l.fn.manager.managed) l.fn.manager.managed.state patch l.found;
  adds : AddsTrue (standing l.fn.manager) l.fn.found l.found;
  kept : IsAsBefore l.fn.manager l.manager;
}
