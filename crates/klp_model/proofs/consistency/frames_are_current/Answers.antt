use Rattle.klp_model.proofs.ObservedLemmas.{are_current}
use Rattle.klp_model.proofs.consistency.frames_are_current.Goals as goal

pub returns : goal.returns
returns c = are_current
