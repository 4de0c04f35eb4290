use Rattle.std.proofs.Common.{rules}
use Rattle.klp_model.proofs.examples.refusals_come_in_order.Goals as goal

pub returns-clause-there_first : goal.returns-clause-there_first
returns-clause-there_first c = search rules
