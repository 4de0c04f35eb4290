use Rattle.std.proofs.Common.{rules}
use Rattle.klp_live_bodies.proofs.run.called.Goals as goal

pub returns-in-Ok-clause-came : goal.returns-in-Ok-clause-came
returns-in-Ok-clause-came g c = search rules
