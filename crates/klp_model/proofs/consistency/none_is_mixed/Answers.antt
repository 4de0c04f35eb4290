use Rattle.klp_model.proofs.MixedLemmas.{none_mixed}
use Rattle.klp_model.proofs.consistency.none_is_mixed.Goals as goal

pub returns : goal.returns
returns c = none_mixed
