use Rattle.std.proofs.Common.{length, ◌∙◌}
use Rattle.klp_manager_state.specs.Managed.{setting_of}
use Rattle.klp_lint_findings.specs.Standing.{sealed}
use Rattle.klp_lint_worlds.proofs.ReadyLemmas.{all_on}
use Rattle.klp_lint_worlds.proofs.ListedLemmas.{all_listed_on}
use Rattle.klp_lint_worlds.proofs.TruthLemmas.{all_true_on}
use Rattle.klp_lint_worlds.proofs.judging.LintingManagerUse.run.Goals as goal

pub returns : goal.returns
returns g c =
    let before = c.args.self.now in
    let start = c.args.manager.now in
    let script = before.found.linted.input.script in
    let counted = c.in_ok-find_judged_count.ensures in
    let here = sealed (setting_of start.managed) start.managed.state in
    let grows = (counted here).grows in (
      grows.linted ∙ c.in_ok-worlds.ensures.linted,
      λ empty. all_true_on start script before.modules c.judge.new.found c.find_judged_count.new.found counted
          (c.in_ok-worlds.ensures.truth empty),
      λ each few. all_listed_on start script before.modules (length before.found.linted.patches.now) here c.judge.new.found
          c.find_judged_count.new.found (counted here) (c.in_ok-worlds.ensures.listed each few),
      λ few. all_on start script before.modules (length before.found.linted.patches.now) c.judge.new.found
          c.find_judged_count.new.found grows (c.in_ok-worlds.ensures.assures few),
    )
