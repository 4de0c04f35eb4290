use Rattle.klp_manager_state.specs.Managed.{setting_of}
use Rattle.klp_lint_findings.specs.declared.finding.Finding.TheVariants.{Count}
use Rattle.klp_lint_findings.specs.Claims.{IsTrue}
use Rattle.klp_lint_findings.specs.Standing.{standing}
use Rattle.klp_lint_findings.proofs.ClaimLemmas.{count_true, ok_adds_it, adds_true_on}
use Rattle.klp_lint_together.proofs.KeptLemmas.{kept_on, adds_before}
use Rattle.klp_lint_together.proofs.StartLemmas.{starts_on}
use Rattle.klp_lint_together.proofs.together.judge_together.Goals as goal

pub returns-then-is_some-clause-adds : goal.returns-then-is_some-clause-adds
returns-then-is_some-clause-adds g c =
    let linted = c.args.found.now.linted in
    let here = standing c.args.manager.now in
    ok_adds_it (IsTrue linted here) c.args.found.now c.add.new.self c.add.result (Count _) (count_true linted here _) c.add.ensures.adds

pub returns-clause-starts : goal.returns-clause-starts
returns-clause-starts g c =
    λ still few patch below.
    starts_on (setting_of c.args.manager.now.managed) c.args.manager.now.managed.state patch c.find_each_alone.new.found c.find_orders.new.found
    (λ h. c.in_ok-find_orders.ensures.adds.grows.kept (c.in_ok-find_over_pairs.ensures.adds.grows.kept (c.in_ok-find_over_ones.ensures.adds.grows.kept h)))
    (c.in_ok-find_each_alone.ensures.starts few patch below)

pub returns-clause-adds : goal.returns-clause-adds
returns-clause-adds g c =
    let alone = c.in_ok-find_each_alone.ensures.kept in
    let all = kept_on alone c.in_ok-outcomes.ensures in
    let ones = kept_on all c.in_ok-find_over_ones.ensures.kept in
    let pairs = kept_on ones c.in_ok-find_over_pairs.ensures.kept in
    adds_true_on (standing c.args.manager.now) c.in_ok-find_each_alone.ensures.adds
    (adds_true_on (standing c.args.manager.now) (adds_before all c.in_ok-find_over_ones.ensures.adds)
    (adds_true_on (standing c.args.manager.now) (adds_before ones c.in_ok-find_over_pairs.ensures.adds) (adds_before pairs c.in_ok-find_orders.ensures.adds)))
