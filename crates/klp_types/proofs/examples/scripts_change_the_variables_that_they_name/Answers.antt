use Rattle.std.proofs.Common.{rules}
use Rattle.klp_types.proofs.examples.scripts_change_the_variables_that_they_name.Goals as goal

pub returns-clause-adding : goal.returns-clause-adding
returns-clause-adding c = search rules

pub returns-clause-refused : goal.returns-clause-refused
returns-clause-refused c = search rules

pub returns-clause-untouched : goal.returns-clause-untouched
returns-clause-untouched c = search rules
