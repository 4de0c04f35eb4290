use Rattle.std.proofs.Common.{rules}
use Rattle.klp_task_shadow_events.proofs.tasks.fork_refusal.Goals as goal

pub returns-then-not-is_in-clause-refusal : goal.returns-then-not-is_in-clause-refusal
returns-then-not-is_in-clause-refusal g c = search rules
