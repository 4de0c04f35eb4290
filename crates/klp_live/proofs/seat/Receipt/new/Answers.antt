use Rattle.std.proofs.Common.{rules}
use Rattle.klp_live.proofs.seat.Receipt.new.Goals as goal

pub returns : goal.returns
returns g c = search rules
