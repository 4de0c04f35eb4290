use Rattle.klp_manager_state.proofs.PreviousLemmas.{previous_agrees}
use Rattle.klp_manager_state.proofs.laws.previous_states_agree.Goals as goal

pub returns : goal.returns
returns c = previous_agrees
