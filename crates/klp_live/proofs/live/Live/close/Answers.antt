use Rattle.std.proofs.Common.{rules}
use Rattle.klp_live.proofs.live.Live.close.Goals as goal

pub closed-requires-clause-all : goal.closed-requires-clause-all
closed-requires-clause-all g c = search rules
