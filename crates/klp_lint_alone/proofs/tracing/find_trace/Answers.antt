use Rattle.klp_lint_findings.specs.Standing.{standing}
use Rattle.klp_lint_findings.proofs.SaidLemmas.{vouches_on}
use Rattle.klp_lint_findings.proofs.ClaimLemmas.{adds_true_on}
use Rattle.klp_lint_findings.proofs.ListedLemmas.{lists_on}
use Rattle.klp_lint_alone.proofs.tracing.find_trace.Goals as goal

pub returns-clause-adds : goal.returns-clause-adds
returns-clause-adds g c =
    adds_true_on (standing c.args.manager.now) c.in_ok-find_answer.ensures.adds (adds_true_on (standing c.args.manager.now) c.in_ok-find_unknown.ensures c.in_ok-find_unjudged.ensures)

pub returns-clause-vouches : goal.returns-clause-vouches
returns-clause-vouches g c =
    vouches_on (vouches_on c.in_ok-find_answer.ensures.vouches c.in_ok-find_unknown.ensures.grows) c.in_ok-find_unjudged.ensures.grows

pub returns-clause-listed : goal.returns-clause-listed
returns-clause-listed g c = λ full of.
    lists_on (lists_on (c.in_ok-find_answer.ensures.listed full of) c.in_ok-find_unknown.ensures) c.in_ok-find_unjudged.ensures
