use Rattle.klp_manager_state.specs.Managed.{setting_of}
use Rattle.klp_lint_findings.specs.declared.finding.Finding.TheVariants.{Trace}
use Rattle.klp_lint_findings.specs.Claims.{IsTrue}
use Rattle.klp_lint_findings.specs.Standing.{standing}
use Rattle.klp_lint_findings.proofs.SayLemmas.{adds_still}
use Rattle.klp_lint_findings.proofs.ClaimLemmas.{trace_true, ok_adds_it}
use Rattle.klp_lint_findings.proofs.ListedLemmas.{ok_lists, fair_lists}
use Rattle.klp_lint_alone.proofs.tracing.find_answer.Goals as goal

pub returns-in-Some-clause-adds : goal.returns-in-Some-clause-adds
returns-in-Some-clause-adds g c =
    let linted = c.args.found.now.linted in
    let here = standing c.args.manager.now in
    ok_adds_it (IsTrue linted here) c.args.found.now c.add.new.self c.add.result (Trace c.args.patch c.in-Some.trace)
    (trace_true linted here c.args.patch c.in-Some.trace c.in-Some.ensures.claims) c.add.ensures.adds

pub returns-in-None-clause-adds : goal.returns-in-None-clause-adds
returns-in-None-clause-adds g c = adds_still c.args.found.now

pub returns-in-Some-clause-listed : goal.returns-in-Some-clause-listed
returns-in-Some-clause-listed g c =
    let here = c.args.manager.now.managed in
    ok_lists (setting_of here) here.state c.args.patch c.args.found.now c.add.new.self c.add.result c.in-Some.trace
    (λ patches. c.in-Some.ensures.listed patches) c.add.ensures.says c.add.ensures.grows

pub returns-in-None-clause-listed : goal.returns-in-None-clause-listed
returns-in-None-clause-listed g c = λ full of.
    let here = c.args.manager.now.managed in
    fair_lists (setting_of here) here.state c.args.patch c.args.found.now (λ patches. c.in-None.ensures.listed patches) full
