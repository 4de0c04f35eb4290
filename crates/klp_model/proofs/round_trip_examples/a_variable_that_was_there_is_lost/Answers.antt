use Rattle.std.proofs.Common.{rules}
use Rattle.klp_model.proofs.LostLemmas.{lost_gone, lost, expected, not_undone}
use Rattle.klp_model.proofs.round_trip_examples.a_variable_that_was_there_is_lost.Goals as goal

pub returns-clause-gone : goal.returns-clause-gone
returns-clause-gone c = lost_gone

pub returns-clause-lost : goal.returns-clause-lost
returns-clause-lost c = lost

pub returns-clause-expected : goal.returns-clause-expected
returns-clause-expected c = expected

pub returns-clause-not_undone : goal.returns-clause-not_undone
returns-clause-not_undone c = not_undone

pub returns-clause-of_the_company : goal.returns-clause-of_the_company
returns-clause-of_the_company c = search rules
