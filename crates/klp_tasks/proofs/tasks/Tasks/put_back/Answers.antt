use Rattle.std.proofs.Common.{rules}
use Rattle.klp_tasks.proofs.tasks.Tasks.put_back.Goals as goal

pub returns-in-NoTaskRow : goal.returns-in-NoTaskRow
returns-in-NoTaskRow c = search rules
