use Rattle.std.proofs.Common.{rules}
use Rattle.klp_catalog.proofs.assemble.resolve.Goals as goal

pub returns : goal.returns
returns c = search rules
