use Rattle.klp_kernel_promises.proofs.journal.reopen.Goals as goal

pub returns-clause-groups : goal.returns-clause-groups
returns-clause-groups c = c.reopen.ensures.groups
