use Rattle.std.proofs.Common.{rules}
use Rattle.klp_task_shadow_events.proofs.tasks.new_task_refusal.Goals as goal

pub returns-then-is_there-clause-refusal : goal.returns-then-is_there-clause-refusal
returns-then-is_there-clause-refusal g c = search rules
