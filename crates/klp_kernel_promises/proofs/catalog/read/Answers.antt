use Rattle.klp_kernel_promises.proofs.catalog.read.Goals as goal

pub returns-clause-fault : goal.returns-clause-fault
returns-clause-fault c = c.read.ensures.fault
