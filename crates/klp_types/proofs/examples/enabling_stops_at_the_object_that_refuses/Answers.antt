use Rattle.std.proofs.Common.{rules}
use Rattle.klp_types.proofs.examples.enabling_stops_at_the_object_that_refuses.Goals as goal

pub returns-clause-first : goal.returns-clause-first
returns-clause-first c = search rules
