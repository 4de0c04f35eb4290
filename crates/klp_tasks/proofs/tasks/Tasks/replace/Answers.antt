use Rattle.klp_tasks.proofs.TaskLemmas.{is_change}
use Rattle.klp_tasks.proofs.tasks.Tasks.replace.Goals as goal

pub returns : goal.returns
returns c = is_change c.args.self.now c.put.new.self c.args.task c.args.row c.put.ensures
