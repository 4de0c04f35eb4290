use Rattle.klp_live_promises.proofs.book.admit.Goals as goal

pub returns : goal.returns
returns g c = c.admit.ensures
