use Rattle.std.proofs.Common.{sym, ap}
use Rattle.klp_arguments.specs.Asked.{status_of}
use Rattle.klp_arguments.proofs.ending.Ending.report.Goals as goal

pub returns-in-Shown : goal.returns-in-Shown
returns-in-Shown g c = sym (ap status_of c.in-Shown.is)
