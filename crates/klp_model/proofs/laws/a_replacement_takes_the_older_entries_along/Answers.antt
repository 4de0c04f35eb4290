use Rattle.klp_model.proofs.ReplacingLemmas.{older_entries_gone, own_functions_left}
use Rattle.klp_model.proofs.laws.a_replacement_takes_the_older_entries_along.Goals as goal

pub returns-clause-older : goal.returns-clause-older
returns-clause-older c = older_entries_gone

pub returns-clause-own : goal.returns-clause-own
returns-clause-own c = own_functions_left
