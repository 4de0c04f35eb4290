use Rattle.klp_types.proofs.ScriptLemmas.{others_stay}
use Rattle.klp_types.proofs.laws.states_of_others_stay.Goals as goal

pub returns : goal.returns
returns c = others_stay
