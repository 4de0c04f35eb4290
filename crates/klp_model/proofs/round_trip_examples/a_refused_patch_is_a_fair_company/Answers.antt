use Rattle.klp_model.proofs.StageLemmas.{refused_fair, refused_gone}
use Rattle.klp_model.proofs.round_trip_examples.a_refused_patch_is_a_fair_company.Goals as goal

pub returns-clause-fair : goal.returns-clause-fair
returns-clause-fair c = refused_fair

pub returns-clause-gone : goal.returns-clause-gone
returns-clause-gone c = refused_gone
