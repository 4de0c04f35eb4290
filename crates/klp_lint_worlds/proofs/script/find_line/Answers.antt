use Rattle.klp_lint_findings.proofs.SayLemmas.{adds_still}
use Rattle.klp_lint_worlds.proofs.ScriptLemmas.{line_added}
use Rattle.klp_lint_worlds.proofs.script.find_line.Goals as goal

pub returns-in_default-clause-adds : goal.returns-in_default-clause-adds
returns-in_default-clause-adds g c = adds_still c.args.found.now

pub returns-clause-adds : goal.returns-clause-adds
returns-clause-adds g c = line_added c.args.found.now c.add.new.self _ c.in_ok-add.ensures.adds
