use Rattle.klp_lint_findings.proofs.SayLemmas.{adds_on}
use Rattle.klp_lint_findings.proofs.ClaimLemmas.{adds_some}
use Rattle.klp_lint_alone.proofs.tracing.find_parts.Goals as goal

pub returns : goal.returns
returns c =
    adds_on c.in_ok-find_idle.ensures
    (adds_on c.in_ok-find_unpicked.ensures
    (adds_on c.in_ok-find_near.ensures
    (adds_on (adds_some c.room.result c.room.ensures c.in_ok-add_some.ensures)
    (adds_some c.alike.result c.alike.ensures c.in_ok-add_some-2.ensures))))
