use Rattle.klp_live_promises.proofs.book.enter.Goals as goal

pub returns-clause-entered : goal.returns-clause-entered
returns-clause-entered g c = c.enter.ensures.entered
