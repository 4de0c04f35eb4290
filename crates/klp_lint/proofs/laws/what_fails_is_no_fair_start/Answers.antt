use Rattle.klp_lint.proofs.FailsLemmas.{fails_fair}
use Rattle.klp_lint.proofs.laws.what_fails_is_no_fair_start.Goals as goal

pub returns : goal.returns
returns c = fails_fair c.untouched_variables_stay.ensures.script
