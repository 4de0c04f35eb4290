use Rattle.std.proofs.Common.{rules}
use Rattle.klp_live.proofs.book.take_back.Goals as goal

pub returns : goal.returns
returns g c = search rules
