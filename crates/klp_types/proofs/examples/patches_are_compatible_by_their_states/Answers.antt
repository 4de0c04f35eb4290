use Rattle.std.proofs.Common.{rules}
use Rattle.klp_types.proofs.examples.patches_are_compatible_by_their_states.Goals as goal

pub returns-clause-lower : goal.returns-clause-lower
returns-clause-lower c = search rules

pub returns-clause-higher : goal.returns-clause-higher
returns-clause-higher c = search rules

pub returns-clause-replacing : goal.returns-clause-replacing
returns-clause-replacing c = search rules

pub returns-clause-each_patch : goal.returns-clause-each_patch
returns-clause-each_patch c = search rules
