use Rattle.klp_model.proofs.RoundLemmas.{in_one_round}
use Rattle.klp_model.proofs.round_trip.callbacks_of_one_round.Goals as goal

pub returns : goal.returns
returns c = in_one_round
