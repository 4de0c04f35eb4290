use Rattle.std.proofs.Common.{rules}
use Rattle.klp_live_run.proofs.step_lines.push.Goals as goal

pub returns : goal.returns
returns g c = search rules
