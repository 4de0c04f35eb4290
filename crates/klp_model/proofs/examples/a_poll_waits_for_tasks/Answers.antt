use Rattle.std.proofs.Common.{rules}
use Rattle.klp_model.proofs.examples.a_poll_waits_for_tasks.Goals as goal

pub returns-clause-next : goal.returns-clause-next
returns-clause-next c = search rules

pub returns-clause-runs : goal.returns-clause-runs
returns-clause-runs c = search rules

pub returns-clause-withdrawn : goal.returns-clause-withdrawn
returns-clause-withdrawn c = search rules
