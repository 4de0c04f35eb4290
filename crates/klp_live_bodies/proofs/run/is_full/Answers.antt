use Rattle.std.proofs.Common.{rules}
use Rattle.klp_live_bodies.proofs.run.is_full.Goals as goal

pub returns : goal.returns
returns c = search rules
