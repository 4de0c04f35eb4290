use Rattle.std.proofs.Common.{rules}
use Rattle.klp_console_io.proofs.due.is_due.Goals as goal

pub returns-in-Some-clause-sooner : goal.returns-in-Some-clause-sooner
returns-in-Some-clause-sooner c = search rules
