use Rattle.klp_model.proofs.TripLemmas.{round_trip}
use Rattle.klp_model.proofs.round_trip.gone_without_a_trace.Goals as goal

pub returns : goal.returns
returns c = round_trip
