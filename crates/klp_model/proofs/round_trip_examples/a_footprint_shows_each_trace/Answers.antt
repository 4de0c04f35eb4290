use Rattle.klp_model.proofs.UnfairExamples.{module_loaded, other_order, other_value, pinned_since, added_since}
use Rattle.klp_model.proofs.round_trip_examples.a_footprint_shows_each_trace.Goals as goal

pub returns-clause-module : goal.returns-clause-module
returns-clause-module c = module_loaded

pub returns-clause-order : goal.returns-clause-order
returns-clause-order c = other_order

pub returns-clause-value : goal.returns-clause-value
returns-clause-value c = other_value

pub returns-clause-pin : goal.returns-clause-pin
returns-clause-pin c = pinned_since

pub returns-clause-variable : goal.returns-clause-variable
returns-clause-variable c = added_since
