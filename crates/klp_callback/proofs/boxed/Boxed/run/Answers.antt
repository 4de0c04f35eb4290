use Rattle.std.proofs.Common.{rules}
use Rattle.klp_callback.proofs.boxed.Boxed.run.Goals as goal

pub returns-clause-status : goal.returns-clause-status
returns-clause-status g c = search rules
