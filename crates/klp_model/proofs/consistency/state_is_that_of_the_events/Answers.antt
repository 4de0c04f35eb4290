use Rattle.klp_model.proofs.ObservedLemmas.{seen_state}
use Rattle.klp_model.proofs.consistency.state_is_that_of_the_events.Goals as goal

pub returns : goal.returns
returns c = seen_state
