use Rattle.klp_model.proofs.TripLemmas.{shadow_outside}
use Rattle.klp_model.proofs.round_trip.only_shadow_events_outside.Goals as goal

pub returns : goal.returns
returns c = shadow_outside
