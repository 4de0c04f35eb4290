use Rattle.klp_kernel_promises.proofs.journal.append.Goals as goal

pub returns-clause-groups : goal.returns-clause-groups
returns-clause-groups c = c.append.ensures.groups
