use Rattle.klp_lint.proofs.FailsLemmas.{fails_everywhere}
use Rattle.klp_lint.proofs.laws.what_fails_without_variables_fails_somewhere.Goals as goal

pub returns : goal.returns
returns c = fails_everywhere c.untouched_variables_stay.ensures.script c.edits_go_key_by_key.ensures.all
