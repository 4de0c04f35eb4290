use Rattle.klp_core.proofs.take.refused.Goals as goal

pub returns-in-NewTask : goal.returns-in-NewTask
returns-in-NewTask g c = rw c.in-NewTask.is (c.new_task_refusal.ensures.refusal c.args.catalog.now)

pub returns-in-Fork : goal.returns-in-Fork
returns-in-Fork g c = rw c.in-Fork.is (c.fork_refusal.ensures.refusal c.args.catalog.now)

pub returns-in-EndTask : goal.returns-in-EndTask
returns-in-EndTask g c = rw c.in-EndTask.is (c.end_task_refusal.ensures.refusal c.args.catalog.now)

pub returns-in-EnterKernel : goal.returns-in-EnterKernel
returns-in-EnterKernel g c = rw c.in-EnterKernel.is (c.enter_kernel_refusal.ensures.refusal c.args.catalog.now)

pub returns-in-ExitToUser : goal.returns-in-ExitToUser
returns-in-ExitToUser g c = rw c.in-ExitToUser.is (c.exit_to_user_refusal.ensures.refusal c.args.catalog.now)

pub returns-in-Wake : goal.returns-in-Wake
returns-in-Wake g c = rw c.in-Wake.is (c.wake_refusal.ensures.refusal c.args.catalog.now)

pub returns-in-ShadowAlloc : goal.returns-in-ShadowAlloc
returns-in-ShadowAlloc g c = rw c.in-ShadowAlloc.is (c.shadow_alloc_refusal.ensures.refusal c.args.catalog.now c.in-ShadowAlloc.field-1)

pub returns-in-ShadowGetOrAlloc : goal.returns-in-ShadowGetOrAlloc
returns-in-ShadowGetOrAlloc g c = rw c.in-ShadowGetOrAlloc.is (c.shadow_get_or_alloc_refusal.ensures.refusal c.args.catalog.now c.in-ShadowGetOrAlloc.field-1)
