-- What was found so far is true, and the manager is as before.
use Rattle.klp_lint_findings.specs.Claims.{AddsTrue}
use Rattle.klp_lint_findings.specs.Standing.{standing}
use Rattle.klp_lint_together.specs.Kept.{IsAsBefore}
use Rattle.klp_lint_together.proofs.replacing.find_lost_variables.Given as goal

abbrev pub invariant-loop-key : goal.invariant-loop-key
invariant-loop-key g l = record { adds : AddsTrue (standing l.fn.manager) l.fn.found l.found; kept : IsAsBefore l.fn.manager l.manager }
