use Rattle.klp_core.proofs.take.take_long.Goals as goal

pub returns-in-Wake-clause-taken : goal.returns-in-Wake-clause-taken
returns-in-Wake-clause-taken g c = rw c.in-Wake.is (c.wake.ensures.taken c.args.catalog.now c.requires.kept)
