use Rattle.klp_arguments.proofs.CommandLemmas.{linted_by-found}
use Rattle.klp_arguments.proofs.reading.linted.Goals as goal

pub returns-in-Some : goal.returns-in-Some
returns-in-Some c = linted_by-found _ _ _ _ _ _ c.in-Some.ensures c.value_of-in-Some.ensures c.is_given.ensures
