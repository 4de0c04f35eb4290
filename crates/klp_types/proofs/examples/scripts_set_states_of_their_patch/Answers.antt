use Rattle.std.proofs.Common.{rules}
use Rattle.klp_types.proofs.examples.scripts_set_states_of_their_patch.Goals as goal

pub returns-clause-refused : goal.returns-clause-refused
returns-clause-refused c = search rules

pub returns-clause-not_named : goal.returns-clause-not_named
returns-clause-not_named c = search rules

pub returns-clause-set : goal.returns-clause-set
returns-clause-set c = search rules

pub returns-clause-taken : goal.returns-clause-taken
returns-clause-taken c = search rules
