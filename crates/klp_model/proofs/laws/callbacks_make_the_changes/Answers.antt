use Rattle.klp_model.proofs.TieLemmas.{step_tie}
use Rattle.klp_model.proofs.laws.callbacks_make_the_changes.Goals as goal

pub returns : goal.returns
returns c = step_tie
