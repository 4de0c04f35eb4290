use Rattle.std.proofs.Common.{rules}
use Rattle.klp_console.proofs.back.take_back.Goals as goal

pub returns-in-Some : goal.returns-in-Some
returns-in-Some c = search rules
