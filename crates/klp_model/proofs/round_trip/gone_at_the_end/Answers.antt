use Rattle.klp_model.proofs.AcceptedLemmas.{round_trip_end}
use Rattle.klp_model.proofs.round_trip.gone_at_the_end.Goals as goal

pub returns : goal.returns
returns c = round_trip_end
