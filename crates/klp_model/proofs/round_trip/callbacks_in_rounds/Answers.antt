use Rattle.klp_model.proofs.RoundLemmas.{in_rounds}
use Rattle.klp_model.proofs.round_trip.callbacks_in_rounds.Goals as goal

pub returns : goal.returns
returns c = in_rounds
