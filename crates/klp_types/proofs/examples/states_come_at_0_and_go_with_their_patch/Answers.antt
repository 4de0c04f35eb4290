use Rattle.std.proofs.Common.{rules}
use Rattle.klp_types.proofs.examples.states_come_at_0_and_go_with_their_patch.Goals as goal

pub returns-clause-last : goal.returns-clause-last
returns-clause-last c = search rules

pub returns-clause-leaves : goal.returns-clause-leaves
returns-clause-leaves c = search rules
