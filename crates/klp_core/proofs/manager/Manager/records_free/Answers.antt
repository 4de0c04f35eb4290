use Rattle.std.proofs.Common.{rules}
use Rattle.klp_core.proofs.manager.Manager.records_free.Goals as goal

pub returns-clause-value : goal.returns-clause-value
returns-clause-value g c = search rules
