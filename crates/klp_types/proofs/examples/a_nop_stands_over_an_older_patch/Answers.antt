use Rattle.std.proofs.Common.{rules}
use Rattle.klp_types.proofs.examples.a_nop_stands_over_an_older_patch.Goals as goal

pub returns-clause-nop : goal.returns-clause-nop
returns-clause-nop c = search rules

pub returns-clause-oldest : goal.returns-clause-oldest
returns-clause-oldest c = search rules
