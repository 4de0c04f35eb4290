use Rattle.std.proofs.Common.{sym}
use Rattle.klp_lint_findings.specs.declared.finding.TraceFinding.TheVariants.{NotLoaded}
use Rattle.klp_lint_findings.specs.Standing.{standing}
use Rattle.klp_lint_findings.proofs.ClaimLemmas.{trace_true}
use Rattle.klp_lint_alone.proofs.tracing.not_loaded.Goals as goal

pub returns-then-is_left_out : goal.returns-then-is_left_out
returns-then-is_left_out g c =
    trace_true c.args.linted.now (standing c.args.manager.now) c.args.patch (NotLoaded c.args.place)
    (λ _. (c.in_ok-target.target.now, sym c.in_ok-target.ensures, c.is_left_out.ensures c.if-is_left_out.true))
