use Rattle.std.proofs.Common.{rules}
use Rattle.klp_types.proofs.examples.the_previous_state_is_of_the_newest_patch_before.Goals as goal

pub returns-clause-newest : goal.returns-clause-newest
returns-clause-newest c = search rules

pub returns-clause-not_its_own : goal.returns-clause-not_its_own
returns-clause-not_its_own c = search rules

pub returns-clause-oldest : goal.returns-clause-oldest
returns-clause-oldest c = search rules

pub returns-clause-behind : goal.returns-clause-behind
returns-clause-behind c = search rules
