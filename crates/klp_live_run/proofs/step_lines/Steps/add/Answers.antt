use Rattle.std.proofs.Common.{rules}
use Rattle.klp_live_run.proofs.step_lines.Steps.add.Goals as goal

pub returns-in-First : goal.returns-in-First
returns-in-First c = search rules
