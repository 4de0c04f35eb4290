use Rattle.std.proofs.Common.{rules}
use Rattle.klp_callback.proofs.edits.count_allocs.Goals as goal

pub returns : goal.returns
returns c = search rules
