use Rattle.klp_model.proofs.MixedLemmas.{versions_named}
use Rattle.klp_model.proofs.consistency.versions_name_their_sites.Goals as goal

pub returns : goal.returns
returns c = versions_named
