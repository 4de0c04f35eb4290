use Rattle.klp_arguments.proofs.reading.matches_in.Goals as goal

pub returns-in-Ok : goal.returns-in-Ok
returns-in-Ok c = (c.in-Ok.ensures.kinds c.requires.judged, (c.in-Ok.ensures.matches c.requires.walked).0)
