use Rattle.klp_types.proofs.FindsLemmas.{it_has, nothing_else, nothing_at_all}
use Rattle.klp_types.proofs.examples.what_is_found_is_all_there_is.Goals as goal

pub returns-clause-has : goal.returns-clause-has
returns-clause-has c = it_has

pub returns-clause-alone : goal.returns-clause-alone
returns-clause-alone c = nothing_else

pub returns-clause-none : goal.returns-clause-none
returns-clause-none c = nothing_at_all
