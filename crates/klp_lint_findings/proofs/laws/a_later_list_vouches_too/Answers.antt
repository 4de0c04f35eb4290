use Rattle.klp_lint_findings.proofs.SaidLemmas.{vouches_later}
use Rattle.klp_lint_findings.proofs.laws.a_later_list_vouches_too.Goals as goal

pub returns : goal.returns
returns c = λ setting state patch before after linted kept vouches. vouches_later linted kept vouches
