use Rattle.klp_model.proofs.RefusingLemmas.{refusing_runs, behind_runs}
use Rattle.klp_model.proofs.round_trip.callbacks_of_the_object_that_refuses.Goals as goal

pub returns-clause-refusing : goal.returns-clause-refusing
returns-clause-refusing c = refusing_runs

pub returns-clause-behind : goal.returns-clause-behind
returns-clause-behind c = behind_runs
