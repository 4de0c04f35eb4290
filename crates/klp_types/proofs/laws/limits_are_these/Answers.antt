use Rattle.std.proofs.Common.{rules}
use Rattle.klp_types.proofs.laws.limits_are_these.Goals as goal

pub returns-clause-variables : goal.returns-clause-variables
returns-clause-variables c = search rules
