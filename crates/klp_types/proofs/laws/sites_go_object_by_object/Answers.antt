use Rattle.klp_types.proofs.SiteLemmas.{symbols_of-append, symbols_of-take, symbols_of-drop}
use Rattle.klp_types.proofs.laws.sites_go_object_by_object.Goals as goal

pub returns-clause-both : goal.returns-clause-both
returns-clause-both c = symbols_of-append

pub returns-clause-one_more : goal.returns-clause-one_more
returns-clause-one_more c = symbols_of-take

pub returns-clause-one_fewer : goal.returns-clause-one_fewer
returns-clause-one_fewer c = symbols_of-drop
