use Rattle.klp_kernel_promises.proofs.catalog.is_compatible.Goals as goal

pub returns : goal.returns
returns g c = c.is_compatible.ensures
