use Rattle.klp_manager_promises.proofs.undo.state_of.Goals as goal

pub returns-clause-value : goal.returns-clause-value
returns-clause-value g c = c.state_of.ensures.value
