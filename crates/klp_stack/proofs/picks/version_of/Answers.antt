use Rattle.std.proofs.Common.{rules}
use Rattle.klp_stack.proofs.picks.version_of.Goals as goal

pub returns-in-None : goal.returns-in-None
returns-in-None c = search rules
