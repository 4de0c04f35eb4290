use Rattle.std.proofs.Common.{rules}
use Rattle.klp_console_io.proofs.answers.Answers.address.Goals as goal

pub returns : goal.returns
returns g c = search rules
