use Rattle.std.proofs.Common.{rules}
use Rattle.klp_program.proofs.arguments.parse_arguments.Goals as goal

pub returns-in-Err-None : goal.returns-in-Err-None
returns-in-Err-None g c = search rules
