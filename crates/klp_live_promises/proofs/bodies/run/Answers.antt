use Rattle.klp_live_promises.proofs.bodies.run.Goals as goal

pub returns : goal.returns
returns g c = c.run.ensures
