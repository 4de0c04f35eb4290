-- The list vouches for the patches that were judged, says which premises fail, and what was found so far is true.
use Rattle.std.proofs.Common.{◌≡◌, ℕ, ◌<◌, ◌≤◌, Bool, true, length}
use Rattle.klp_manager_state.specs.Managed.{setting_of}
use Rattle.klp_lint_findings.specs.Claims.{AddsTrue}
use Rattle.klp_lint_findings.specs.Listed.{Lists}
use Rattle.klp_lint_findings.specs.Saying.{is_said_of}
use Rattle.klp_lint_findings.specs.Sound.{VouchesBelow}
use Rattle.klp_lint_findings.specs.Standing.{standing}
use Rattle.klp_lint_alone.proofs.tracing.judge_alone.Given as goal

abbrev pub invariant-loop-number : goal.invariant-loop-number
invariant-loop-number g l = record {
  adds : AddsTrue (standing l.fn.manager) l.fn.found l.found;
  vouches : length l.fn.found.linted.patches.now ≤ 256
      → VouchesBelow (setting_of l.fn.manager.managed) l.fn.manager.managed.state l.number l.found;
  listed : length l.fn.found.linted.patches.now ≤ 256 → (full : Bool) → is_said_of l.fn.found.world full ≡ true
      → (patch : ℕ) → patch < l.number → Lists (setting_of l.fn.manager.managed) l.fn.manager.managed.state patch full l.found;
}
