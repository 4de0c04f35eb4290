use Rattle.klp_model.proofs.AllowedRunLemmas.{allowed_after, allowed_run}
use Rattle.klp_model.proofs.laws.states_stay_allowed.Goals as goal

pub returns-clause-step : goal.returns-clause-step
returns-clause-step c = allowed_after

pub returns-clause-run : goal.returns-clause-run
returns-clause-run c = allowed_run
