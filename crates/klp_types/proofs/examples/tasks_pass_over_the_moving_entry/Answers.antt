use Rattle.std.proofs.Common.{rules}
use Rattle.klp_types.proofs.examples.tasks_pass_over_the_moving_entry.Goals as goal

pub returns-clause-newest : goal.returns-clause-newest
returns-clause-newest c = search rules

pub returns-clause-nop : goal.returns-clause-nop
returns-clause-nop c = search rules

pub returns-clause-older : goal.returns-clause-older
returns-clause-older c = search rules
