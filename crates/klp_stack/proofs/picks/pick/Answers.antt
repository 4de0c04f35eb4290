use Rattle.std.proofs.Common.{rules}
use Rattle.klp_stack.proofs.picks.pick.Goals as goal

pub returns : goal.returns
returns c = search rules
