-- Those so far are lost.
use Rattle.std.proofs.Common.{◌≡◌, ℕ, true}
use Rattle.klp_lint_findings.specs.Claims.{IsLost}
use Rattle.klp_lint_findings.specs.Standing.{standing}
use Rattle.klp_lint_findings.specs.Targets.{has_function}
use Rattle.klp_lint_changes.proofs.sites.lost_functions.Given as goal

abbrev pub invariant-loop-number : goal.invariant-loop-number
invariant-loop-number g l =
    (number : ℕ) → has_function l.lost number ≡ true
    → IsLost l.fn.linted (standing l.fn.manager) l.fn.by l.fn.gone l.fn.place number
