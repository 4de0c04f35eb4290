use Rattle.std.proofs.Common.{length, ap, ◌∙◌}
use Rattle.klp_types.specs.Setting.{Setting}
use Rattle.klp_model.specs.State.{State}
use Rattle.klp_manager_state.specs.Managed.{setting_of}
use Rattle.klp_lint_worlds.specs.Worlds.{with_modules}
use Rattle.klp_lint_worlds.proofs.TruthLemmas.{both_true, one_true}
use Rattle.klp_lint_findings.specs.Standing.{sealed}
use Rattle.klp_lint_worlds.proofs.ListedLemmas.{one_listed, both_listed}
use Rattle.klp_lint_worlds.proofs.judging.judge_in_both.Goals as goal

pub returns-then-modules-eq0-clause-truth : goal.returns-then-modules-eq0-clause-truth
returns-then-modules-eq0-clause-truth g c =
    let start = c.args.manager.now.managed in
    one_true (setting_of start) start.state c.args.modules c.args.found.now c.judge_now.new.found c.if-modules-eq0.true c.in_ok-judge_now.ensures.adds

pub returns-clause-truth : goal.returns-clause-truth
returns-clause-truth g c =
    let start = c.args.manager.now.managed in
    let bare = c.judge_world.new.manager.managed in
    let full = c.load_modules.new.manager.managed in
    both_true (setting_of start) (setting_of full) start.state full.state c.args.modules c.args.found.now c.judge_world.new.found
    c.judge_world-2.new.found
    (c.load_modules.ensures.setting ∙ c.in_ok-judge_world.ensures.setting)
    (c.load_modules.ensures.state ∙ ap (λ (s : Setting). with_modules s bare.state c.args.modules) c.in_ok-judge_world.ensures.setting
    ∙ ap (λ (s : State). with_modules (setting_of start) s c.args.modules) c.in_ok-judge_world.ensures.state)
    c.in_ok-judge_world.ensures.adds c.in_ok-judge_world-2.ensures.adds

pub returns-then-modules-eq0-clause-listed : goal.returns-then-modules-eq0-clause-listed
returns-then-modules-eq0-clause-listed g c = λ each few.
    let start = c.args.manager.now.managed in
    one_listed (setting_of start) start.state c.args.modules (length c.args.found.now.linted.patches.now) c.args.found.now c.judge_now.new.found
    c.if-modules-eq0.true each (c.in_ok-judge_now.ensures.listed few)

pub returns-clause-listed : goal.returns-clause-listed
returns-clause-listed g c = λ each few.
    let start = c.args.manager.now.managed in
    let bare = c.judge_world.new.manager.managed in
    let full = c.load_modules.new.manager.managed in
    both_listed (setting_of start) (setting_of full) start.state full.state c.args.modules (sealed (setting_of full) full.state) c.args.found.now
    c.judge_world.new.found c.judge_world-2.new.found
    (c.load_modules.ensures.setting ∙ c.in_ok-judge_world.ensures.setting)
    (c.load_modules.ensures.state ∙ ap (λ (s : Setting). with_modules s bare.state c.args.modules) c.in_ok-judge_world.ensures.setting
    ∙ ap (λ (s : State). with_modules (setting_of start) s c.args.modules) c.in_ok-judge_world.ensures.state)
    c.in_ok-judge_world.ensures.adds.linted c.in_ok-judge_world-2.ensures.adds c.in_ok-judge_world.ensures.listed
    c.in_ok-judge_world-2.ensures.listed few
