use Rattle.std.proofs.Common.{rules}
use Rattle.klp_model.proofs.examples.a_row_tells_the_two_newest_entries.Goals as goal

pub returns-clause-nop : goal.returns-clause-nop
returns-clause-nop c = search rules
