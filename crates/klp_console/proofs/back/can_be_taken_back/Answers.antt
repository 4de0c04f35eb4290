use Rattle.std.proofs.Common.{rules}
use Rattle.klp_console.proofs.back.can_be_taken_back.Goals as goal

pub returns-in_default : goal.returns-in_default
returns-in_default c = search rules
