use Rattle.klp_lint.proofs.BehindLemmas.{answered_now}
use Rattle.klp_lint.proofs.laws.behind_nothing_is_now.Goals as goal

pub returns : goal.returns
returns c = answered_now
