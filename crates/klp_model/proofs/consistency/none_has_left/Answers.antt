use Rattle.klp_model.proofs.LeftLemmas.{none_left}
use Rattle.klp_model.proofs.consistency.none_has_left.Goals as goal

pub returns : goal.returns
returns c = none_left
