use Rattle.std.proofs.Common.{rules}
use Rattle.klp_live_bodies.proofs.two.run_two.Goals as goal

pub returns-clause-first : goal.returns-clause-first
returns-clause-first g c = search rules

pub returns-clause-second : goal.returns-clause-second
returns-clause-second g c = search rules
