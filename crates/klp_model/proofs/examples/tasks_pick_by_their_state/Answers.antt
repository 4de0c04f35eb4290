use Rattle.std.proofs.Common.{rules}
use Rattle.klp_model.proofs.examples.tasks_pick_by_their_state.Goals as goal

pub returns-clause-below : goal.returns-clause-below
returns-clause-below c = search rules
