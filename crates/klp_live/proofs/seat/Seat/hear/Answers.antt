use Rattle.std.proofs.Common.{rules}
use Rattle.klp_live.proofs.seat.Seat.hear.Goals as goal

pub returns-clause-own : goal.returns-clause-own
returns-clause-own g c = search rules

pub returns-clause-heard : goal.returns-clause-heard
returns-clause-heard g c = search rules
