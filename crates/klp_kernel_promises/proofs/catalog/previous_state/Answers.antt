use Rattle.klp_kernel_promises.proofs.catalog.previous_state.Goals as goal

pub returns : goal.returns
returns g c = c.previous_state.ensures
