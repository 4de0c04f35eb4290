use Rattle.klp_model.proofs.StageLemmas.{allowed, fair, gone}
use Rattle.klp_model.proofs.round_trip_examples.a_fair_company_goes_through_every_stage.Goals as goal

pub returns-clause-fair : goal.returns-clause-fair
returns-clause-fair c = fair

pub returns-clause-gone : goal.returns-clause-gone
returns-clause-gone c = gone

pub returns-clause-allowed : goal.returns-clause-allowed
returns-clause-allowed c = allowed
