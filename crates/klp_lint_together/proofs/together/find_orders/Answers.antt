use Rattle.klp_lint_findings.specs.declared.finding.Finding.TheVariants.{Count}
use Rattle.klp_lint_findings.specs.Claims.{IsTrue}
use Rattle.klp_lint_findings.specs.Standing.{standing}
use Rattle.klp_lint_findings.proofs.SayLemmas.{adds_still}
use Rattle.klp_lint_findings.proofs.ClaimLemmas.{count_true, ok_adds_it}
use Rattle.klp_lint_together.proofs.together.find_orders.Goals as goal

pub returns-then-as_slice-lt2-clause-adds : goal.returns-then-as_slice-lt2-clause-adds
returns-then-as_slice-lt2-clause-adds g c = adds_still c.args.found.now

pub returns-clause-adds : goal.returns-clause-adds
returns-clause-adds g c =
    let linted = c.args.found.now.linted in
    let here = standing c.args.manager.now in
    ok_adds_it (IsTrue linted here) c.args.found.now c.add.new.self c.add.result (Count _) (count_true linted here _) c.add.ensures.adds
