use Rattle.std.proofs.Common.{rules}
use Rattle.klp_live_bodies.proofs.run.done.Goals as goal

pub returns-clause-done : goal.returns-clause-done
returns-clause-done g c = search rules
