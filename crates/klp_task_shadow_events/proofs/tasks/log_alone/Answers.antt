use Rattle.std.proofs.Common.{rules}
use Rattle.klp_task_shadow_events.proofs.tasks.log_alone.Goals as goal

pub returns : goal.returns
returns c = search rules
