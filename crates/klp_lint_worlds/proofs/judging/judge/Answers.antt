use Rattle.std.proofs.Common.{Bool, Option, length, sym, subst}
use Rattle.klp_lint_findings.specs.declared.linted.NamedText.{NamedText}
use Rattle.klp_manager_state.specs.Managed.{setting_of}
use Rattle.klp_lint_findings.specs.Standing.{Standing, sealed}
use Rattle.klp_lint_worlds.specs.Worlds.{world_state, AssuresAll, AreAllTrue, AllListed}
use Rattle.klp_lint_worlds.proofs.ReadyLemmas.{assured_script}
use Rattle.klp_lint_worlds.proofs.ListedLemmas.{script_listed}
use Rattle.klp_lint_worlds.proofs.TruthLemmas.{script_true, nothing_true}
use Rattle.klp_lint_worlds.proofs.judging.judge.Goals as goal

pub returns-in_ok-judge_now-in-Some-clause-assures : goal.returns-in_ok-judge_now-in-Some-clause-assures
returns-in_ok-judge_now-in-Some-clause-assures g c =
    λ few.
    let zero = c.args.found.now in
    subst (λ (s : Option NamedText). AssuresAll c.args.manager.now s c.args.modules (length zero.linted.patches.now) c.judge_now.new.found) (sym c.in-Some.is)
    (assured_script c.args.manager.now c.do_lines.new.manager c.in-Some.script c.args.modules zero c.do_lines.new.found c.judge_now.new.found
    c.in_ok-do_lines-in-Some.ensures.scripted c.in_ok-do_lines-in-Some.ensures.setting c.in_ok-do_lines-in-Some.ensures.adds.grows
    c.in_ok-judge_now-in-Some.ensures.adds.grows c.in_ok-judge_now-in-Some.ensures.assures few)

pub returns-in_ok-judge_now-in-Some-clause-truth : goal.returns-in_ok-judge_now-in-Some-clause-truth
returns-in_ok-judge_now-in-Some-clause-truth g c =
    λ empty.
    subst (λ (s : Option NamedText). AreAllTrue c.args.manager.now s c.args.modules c.judge_now.new.found) (sym c.in-Some.is)
    (script_true c.args.manager.now c.do_lines.new.manager c.in-Some.script c.args.modules c.args.found.now c.do_lines.new.found c.judge_now.new.found
    empty c.in_ok-do_lines-in-Some.ensures.scripted c.in_ok-do_lines-in-Some.ensures.setting c.in_ok-do_lines-in-Some.ensures.adds
    c.in_ok-judge_now-in-Some.ensures.adds)

pub returns-in_ok-judge_in_both-in-None-clause-truth : goal.returns-in_ok-judge_in_both-in-None-clause-truth
returns-in_ok-judge_in_both-in-None-clause-truth g c =
    λ empty.
    let start = c.args.manager.now in
    let world : Bool → Standing =
    λ full. sealed (setting_of start.managed) (world_state (setting_of start.managed) start.managed.state c.args.modules full) in
    subst (λ (s : Option NamedText). AreAllTrue start s c.args.modules c.judge_in_both.new.found) (sym c.in-None.is)
    (c.in_ok-judge_in_both-in-None.ensures.truth (nothing_true world c.args.found.now empty))

pub returns-in_ok-judge_now-in-Some-clause-listed : goal.returns-in_ok-judge_now-in-Some-clause-listed
returns-in_ok-judge_now-in-Some-clause-listed g c =
    λ each few.
    let there = c.do_lines.new.manager.managed in
    subst (λ (s : Option NamedText). AllListed c.args.manager.now s c.args.modules (length c.args.found.now.linted.patches.now) c.judge_now.new.found)
    (sym c.in-Some.is)
    (script_listed c.args.manager.now c.do_lines.new.manager c.in-Some.script c.args.modules (sealed (setting_of there) there.state) c.args.found.now
    c.do_lines.new.found c.judge_now.new.found c.in_ok-do_lines-in-Some.ensures.scripted c.in_ok-do_lines-in-Some.ensures.setting
    c.in_ok-do_lines-in-Some.ensures.adds c.in_ok-judge_now-in-Some.ensures.adds c.in_ok-judge_now-in-Some.ensures.listed each few)

pub returns-in_ok-judge_in_both-in-None-clause-listed : goal.returns-in_ok-judge_in_both-in-None-clause-listed
returns-in_ok-judge_in_both-in-None-clause-listed g c =
    λ each few.
    subst (λ (s : Option NamedText). AllListed c.args.manager.now s c.args.modules (length c.args.found.now.linted.patches.now) c.judge_in_both.new.found)
    (sym c.in-None.is) (c.in_ok-judge_in_both-in-None.ensures.listed each few)
