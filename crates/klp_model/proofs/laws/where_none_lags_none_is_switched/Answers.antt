use Rattle.klp_model.proofs.SettledLemmas.{none_switched}
use Rattle.klp_model.proofs.laws.where_none_lags_none_is_switched.Goals as goal

pub returns : goal.returns
returns c = none_switched
