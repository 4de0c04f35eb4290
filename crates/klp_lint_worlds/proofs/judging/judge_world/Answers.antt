-- The list is about another world in between.
use Rattle.std.proofs.Common.{refl}
use Rattle.klp_lint_findings.proofs.ListedLemmas.{lists_later}
use Rattle.klp_lint_worlds.proofs.judging.judge_world.Goals as goal

pub returns-clause-adds : goal.returns-clause-adds
returns-clause-adds g c =
    let adds = c.in_ok-judge_now.ensures.adds in
    record { linted = adds.grows.linted; kept = adds.grows.kept; still = adds.kept; more = adds.more }

pub returns-clause-listed : goal.returns-clause-listed
returns-clause-listed g c = λ few full of patch below.
    lists_later refl (λ finding says. says) (c.in_ok-judge_now.ensures.listed few full of patch below)
