use Rattle.klp_manager_promises.proofs.events.run.Goals as goal

pub returns-clause-taken : goal.returns-clause-taken
returns-clause-taken g c = c.run.ensures.taken
