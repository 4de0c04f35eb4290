use Rattle.klp_kernel_promises.proofs.tasks.switch_if_clear.Goals as goal

pub returns-clause-tasks : goal.returns-clause-tasks
returns-clause-tasks c = c.switch_if_clear.ensures.tasks
