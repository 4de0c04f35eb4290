use Rattle.klp_catalog.proofs.CountLemmas.{add_up}
use Rattle.klp_catalog.proofs.laws.runs_add_up.Goals as goal

pub returns : goal.returns
returns c = add_up
