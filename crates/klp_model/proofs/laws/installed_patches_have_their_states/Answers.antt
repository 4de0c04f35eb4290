use Rattle.klp_model.proofs.StatedLemmas.{stated_next, stated_value}
use Rattle.klp_model.proofs.laws.installed_patches_have_their_states.Goals as goal

pub returns-clause-step : goal.returns-clause-step
returns-clause-step c = stated_next

pub returns-clause-look : goal.returns-clause-look
returns-clause-look c = stated_value
