use Rattle.std.proofs.Common.{rules}
use Rattle.klp_live_run.proofs.running.ManagerRuns.prepare.Goals as goal

pub returns : goal.returns
returns g c = search rules
