use Rattle.std.proofs.Common.{rules}
use Rattle.klp_live_bodies.proofs.body.TaskBody.run.Goals as goal

pub returns-in-Ok : goal.returns-in-Ok
returns-in-Ok g c = search rules
