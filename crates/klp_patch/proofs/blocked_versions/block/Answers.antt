use Rattle.std.proofs.Common.{rules}
use Rattle.klp_patch.proofs.blocked_versions.block.Goals as goal

pub block_functions-requires-clause-own : goal.block_functions-requires-clause-own
block_functions-requires-clause-own g c = search rules
