use Rattle.klp_lint_findings.specs.declared.finding.Finding.TheVariants.{Count}
use Rattle.klp_lint_findings.proofs.ClaimLemmas.{count_true, ok_adds_true}
use Rattle.klp_lint_worlds.proofs.judging.find_judged_count.Goals as goal

pub returns : goal.returns
returns g c = ok_adds_true c.args.found.now c.add.new.self c.add.result (Count _) (λ here. count_true c.args.found.now.linted here _) c.add.ensures.adds
