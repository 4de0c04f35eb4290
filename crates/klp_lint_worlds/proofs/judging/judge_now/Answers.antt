use Rattle.std.proofs.Common.{◌≡◌, subst}
use Rattle.klp_manager_state.specs.Managed.{Managed, setting_of}
use Rattle.klp_lint_findings.specs.Listed.{Lists}
use Rattle.klp_lint_findings.specs.Standing.{standing, sealed}
use Rattle.klp_lint_findings.proofs.ClaimLemmas.{adds_true_on, adds_true_at}
use Rattle.klp_lint_findings.proofs.ListedLemmas.{lists_on}
use Rattle.klp_lint_worlds.proofs.ReadyLemmas.{assured_now}
use Rattle.klp_lint_worlds.proofs.judging.judge_now.Goals as goal

pub returns-clause-assures : goal.returns-clause-assures
returns-clause-assures g c =
    λ few. assured_now c.args.manager.now.managed c.seal.new.manager.managed c.args.found.now c.judge_alone.new.found c.judge_together.new.found
    c.seal.ensures.same (c.in_ok-judge_alone.ensures.vouches few) c.in_ok-judge_alone.ensures.adds.grows c.in_ok-judge_together.ensures.adds.grows
    c.in_ok-judge_together.ensures.starts few

pub returns-clause-adds : goal.returns-clause-adds
returns-clause-adds g c =
    let before = c.args.manager.now.managed in
    let there : standing c.seal.new.manager ≡ sealed (setting_of before) before.state =
    λ i. record { setting = setting_of (c.seal.ensures.same i); state = (c.seal.ensures.same i).state; groups = c.seal.ensures.empty i } in
    adds_true_at there (adds_true_on (standing c.seal.new.manager) c.in_ok-judge_alone.ensures.adds c.in_ok-judge_together.ensures.adds)

pub returns-clause-listed : goal.returns-clause-listed
returns-clause-listed g c = λ few full of patch below.
    subst (λ (m : Managed). Lists (setting_of m) m.state patch full c.judge_together.new.found) c.seal.ensures.same
    (lists_on (c.in_ok-judge_alone.ensures.listed few full of patch below) c.in_ok-judge_together.ensures.adds)
