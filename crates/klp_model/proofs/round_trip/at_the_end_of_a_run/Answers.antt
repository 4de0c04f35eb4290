use Rattle.klp_model.proofs.AcceptedLemmas.{round_trip_run, shadow_outside_run}
use Rattle.klp_model.proofs.round_trip.at_the_end_of_a_run.Goals as goal

pub returns-clause-footprint : goal.returns-clause-footprint
returns-clause-footprint c = round_trip_run

pub returns-clause-outside : goal.returns-clause-outside
returns-clause-outside c = shadow_outside_run
