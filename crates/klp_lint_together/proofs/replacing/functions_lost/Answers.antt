use Rattle.klp_lint_findings.specs.declared.finding.ReplaceFinding.TheVariants.{LosesFunctions}
use Rattle.klp_lint_findings.specs.Standing.{standing}
use Rattle.klp_lint_findings.proofs.ClaimLemmas.{replace_true}
use Rattle.klp_lint_together.proofs.replacing.functions_lost.Goals as goal

pub returns : goal.returns
returns g c =
    replace_true c.args.linted.now (standing c.args.manager.now) c.args.patch
    (LosesFunctions c.args.other c.args.place c.lost_functions-functions.result) c.lost_functions-functions.ensures
