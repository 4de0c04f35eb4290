use Rattle.std.proofs.Common.{rules}
use Rattle.klp_console.proofs.files.say_function.Goals as goal

pub returns : goal.returns
returns g c = search rules
