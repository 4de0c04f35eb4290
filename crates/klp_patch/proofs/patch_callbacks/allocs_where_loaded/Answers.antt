use Rattle.std.proofs.Common.{rules}
use Rattle.klp_patch.proofs.patch_callbacks.allocs_where_loaded.Goals as goal

pub returns-in-Some-clause-value : goal.returns-in-Some-clause-value
returns-in-Some-clause-value g c = search rules
