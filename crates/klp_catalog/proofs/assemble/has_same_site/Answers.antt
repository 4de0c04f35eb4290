use Rattle.std.proofs.Common.{rules}
use Rattle.klp_catalog.proofs.assemble.has_same_site.Goals as goal

pub loop-function-preserved : goal.loop-function-preserved
loop-function-preserved c = search rules
