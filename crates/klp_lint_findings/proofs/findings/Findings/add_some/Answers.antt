use Rattle.klp_lint_findings.proofs.SayLemmas.{adds_still, ok_some}
use Rattle.klp_lint_findings.proofs.findings.Findings.add_some.Goals as goal

pub returns-in-Some : goal.returns-in-Some
returns-in-Some c = ok_some c.args.self.now c.add.new.self c.add.result c.args.finding c.in-Some.finding c.in-Some.is c.add.ensures.adds

pub returns-in-None : goal.returns-in-None
returns-in-None c = adds_still c.args.self.now
