use Rattle.klp_core.proofs.take.take_brief.Goals as goal

pub returns-in-NewTask-clause-taken : goal.returns-in-NewTask-clause-taken
returns-in-NewTask-clause-taken g c = rw c.in-NewTask.is (c.new_task.ensures.taken c.args.catalog.now c.requires.kept)

pub returns-in-Fork-clause-taken : goal.returns-in-Fork-clause-taken
returns-in-Fork-clause-taken g c = rw c.in-Fork.is (c.fork.ensures.taken c.args.catalog.now c.requires.kept)

pub returns-in-EndTask-clause-taken : goal.returns-in-EndTask-clause-taken
returns-in-EndTask-clause-taken g c = rw c.in-EndTask.is (c.end_task.ensures.taken c.args.catalog.now c.requires.kept)

pub returns-in-EnterKernel-clause-taken : goal.returns-in-EnterKernel-clause-taken
returns-in-EnterKernel-clause-taken g c = rw c.in-EnterKernel.is (c.enter_kernel.ensures.taken c.args.catalog.now c.requires.kept)

pub returns-in-ExitToUser-clause-taken : goal.returns-in-ExitToUser-clause-taken
returns-in-ExitToUser-clause-taken g c = rw c.in-ExitToUser.is (c.exit_to_user.ensures.taken c.args.catalog.now c.requires.kept)
