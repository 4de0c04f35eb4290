use Rattle.klp_arguments.proofs.CommandLemmas.{watched_by-found}
use Rattle.klp_arguments.proofs.reading.watched.Goals as goal

pub returns-in-Some-Some : goal.returns-in-Some-Some
returns-in-Some-Some c = watched_by-found _ _ _ _ c.in-Some-Some.ensures c.in-Some-Some.ensures'
