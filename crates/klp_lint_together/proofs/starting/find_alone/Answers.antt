-- A patch that can't be loaded has the answer of which its outcome tells.
use Rattle.klp_model.specs.declared.event.Event.TheVariants.{Enable}
use Rattle.klp_manager_state.specs.Managed.{setting_of}
use Rattle.klp_lint_findings.specs.declared.finding.Finding.TheVariants.{Load}
use Rattle.klp_lint_findings.specs.declared.finding.LoadFinding.TheVariants.{NotStarted}
use Rattle.klp_lint_findings.specs.Claims.{IsTrue}
use Rattle.klp_lint_findings.specs.Standing.{standing, answer_at}
use Rattle.klp_lint_findings.proofs.SayLemmas.{adds_still}
use Rattle.klp_lint_findings.proofs.ClaimLemmas.{load_true, ok_adds_it, ok_adds_some}
use Rattle.klp_lint_together.proofs.KeptLemmas.{true_before}
use Rattle.klp_lint_together.proofs.StartLemmas.{ok_starts}
use Rattle.klp_lint_together.proofs.starting.find_alone.Goals as goal

pub returns-then-is_some-clause-adds : goal.returns-then-is_some-clause-adds
returns-then-is_some-clause-adds g c = adds_still c.args.found.now

pub returns-then-has_started-clause-starts : goal.returns-then-has_started-clause-starts
returns-then-has_started-clause-starts g c =
    let before = c.args.manager.now.managed in
    ok_starts c.add_some.result (setting_of before) before.state c.args.patch c.add_some.new.self
    (c.try_now-tried.ensures.starts (c.is_started-has_started.ensures.started c.if-has_started.true))

pub returns-then-has_started-clause-adds : goal.returns-then-has_started-clause-adds
returns-then-has_started-clause-adds g c =
    let linted = c.args.found.now.linted in
    ok_adds_some (IsTrue linted (standing c.args.manager.now)) c.args.found.now c.add_some.new.self c.add_some.result c.staying.result
    (true_before linted c.staying.result c.try_now-tried.ensures.kept c.staying.ensures) c.add_some.ensures

pub returns-then-is_reported-clause-adds : goal.returns-then-is_reported-clause-adds
returns-then-is_reported-clause-adds g c = adds_still c.args.found.now

pub returns-clause-adds : goal.returns-clause-adds
returns-clause-adds g c =
    let linted = c.args.found.now.linted in
    let here = standing c.args.manager.now in
    let finding = NotStarted c.why_not_started-why.result in
    let claim = c.why_not_started-why.ensures (answer_at here (Enable c.args.patch)) c.try_now-tried.ensures.tells
    (λ is. let started = c.is_started-has_started.ensures.others is in cc (started, c.if-has_started.false)) in
    ok_adds_it (IsTrue linted here) c.args.found.now c.add-2.new.self c.add-2.result (Load c.args.patch finding)
    (load_true linted here c.args.patch finding claim) c.add-2.ensures.adds
