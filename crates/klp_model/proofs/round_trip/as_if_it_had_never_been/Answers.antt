use Rattle.klp_model.proofs.TripLemmas.{world_back}
use Rattle.klp_model.proofs.round_trip.as_if_it_had_never_been.Goals as goal

pub returns : goal.returns
returns c = world_back
