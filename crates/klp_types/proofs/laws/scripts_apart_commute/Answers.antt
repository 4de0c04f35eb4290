use Rattle.klp_types.proofs.ScriptLemmas.{commute}
use Rattle.klp_types.proofs.laws.scripts_apart_commute.Goals as goal

pub returns : goal.returns
returns c = commute
