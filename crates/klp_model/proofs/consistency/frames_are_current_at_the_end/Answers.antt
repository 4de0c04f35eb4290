use Rattle.klp_model.proofs.ObservedLemmas.{current_at_end}
use Rattle.klp_model.proofs.consistency.frames_are_current_at_the_end.Goals as goal

pub returns : goal.returns
returns c = current_at_end
