use Rattle.klp_model.proofs.UnfairExamples.{another, another_disabled, forced, comes, goes, own_variable, refused, starts_moving, starts_installed}
use Rattle.klp_model.proofs.round_trip_examples.these_companies_are_unfair.Goals as goal

pub returns-clause-another : goal.returns-clause-another
returns-clause-another c = another

pub returns-clause-another_disabled : goal.returns-clause-another_disabled
returns-clause-another_disabled c = another_disabled

pub returns-clause-forced : goal.returns-clause-forced
returns-clause-forced c = forced

pub returns-clause-comes : goal.returns-clause-comes
returns-clause-comes c = comes

pub returns-clause-goes : goal.returns-clause-goes
returns-clause-goes c = goes

pub returns-clause-own_variable : goal.returns-clause-own_variable
returns-clause-own_variable c = own_variable

pub returns-clause-refused : goal.returns-clause-refused
returns-clause-refused c = refused

pub returns-clause-starts_moving : goal.returns-clause-starts_moving
returns-clause-starts_moving c = starts_moving

pub returns-clause-starts_installed : goal.returns-clause-starts_installed
returns-clause-starts_installed c = starts_installed
