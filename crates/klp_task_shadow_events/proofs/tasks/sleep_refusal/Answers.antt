use Rattle.std.proofs.Common.{rules}
use Rattle.klp_task_shadow_events.proofs.tasks.sleep_refusal.Goals as goal

pub returns-else-has_bad-clause-refusal : goal.returns-else-has_bad-clause-refusal
returns-else-has_bad-clause-refusal g c = search rules
