use Rattle.std.proofs.Common.{◌∙◌}
use Rattle.klp_lint_findings.specs.declared.finding.ReplaceFinding.TheVariants.{Forgets}
use Rattle.klp_lint_findings.specs.Standing.{standing}
use Rattle.klp_lint_findings.proofs.ClaimLemmas.{replace_true}
use Rattle.klp_lint_together.proofs.BehindLemmas.{set_lost}
use Rattle.klp_lint_together.proofs.replacing.forgets.Goals as goal

pub returns-clause-claims : goal.returns-clause-claims
returns-clause-claims g c =
    let here = standing c.args.manager.now in
    replace_true c.args.linted.now here c.args.patch (Forgets c.args.other c.args.id c.are_understood-is_sure.result)
    (set_lost here c.args.other c.args.id c.value_lost.result (λ is. c.if-unwrap_or-eq0.false (c.unwrap_or.ensures ∙ is)) c.value_lost.ensures.value)
