use Rattle.klp_types.proofs.KeyLemmas.{few_kept}
use Rattle.klp_types.proofs.laws.no_more_variables_are_left.Goals as goal

pub returns : goal.returns
returns c = few_kept
