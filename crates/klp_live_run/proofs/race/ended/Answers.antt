use Rattle.std.proofs.Common.{rules}
use Rattle.klp_live_run.proofs.race.ended.Goals as goal

pub returns-in-Ok-clause-done : goal.returns-in-Ok-clause-done
returns-in-Ok-clause-done g c = search rules
