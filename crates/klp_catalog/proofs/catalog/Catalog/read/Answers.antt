use Rattle.std.proofs.Common.{rules}
use Rattle.klp_catalog.proofs.catalog.Catalog.read.Goals as goal

pub returns-clause-fault : goal.returns-clause-fault
returns-clause-fault c = search rules
