use Rattle.klp_model.proofs.OpeningLemmas.{opening_allowed}
use Rattle.klp_model.proofs.laws.the_opening_state_is_allowed.Goals as goal

pub returns : goal.returns
returns c = opening_allowed
