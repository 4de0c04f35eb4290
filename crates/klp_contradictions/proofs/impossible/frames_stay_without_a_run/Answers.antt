use Rattle.klp_contradictions.proofs.ImpossibleLemmas.{frames_stay}
use Rattle.klp_contradictions.proofs.impossible.frames_stay_without_a_run.Goals as goal

pub returns : goal.returns
returns c = frames_stay
