use Rattle.std.proofs.Common.{rules}
use Rattle.klp_model.proofs.examples.who_is_forced_away_is_pinned.Goals as goal

pub returns-clause-away : goal.returns-clause-away
returns-clause-away c = search rules
