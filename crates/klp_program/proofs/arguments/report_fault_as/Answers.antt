use Rattle.std.proofs.Common.{rules}
use Rattle.klp_program.proofs.arguments.report_fault_as.Goals as goal

pub returns : goal.returns
returns g c = search rules
