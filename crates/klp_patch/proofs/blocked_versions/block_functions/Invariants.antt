use Rattle.std.proofs.Common.{take}
use Rattle.klp_tasks.specs.Members.{IsSetOf}
use Rattle.klp_patch.proofs.BlockLemmas.{blocked_by}
use Rattle.klp_patch.proofs.blocked_versions.block_functions.Given as goal

abbrev pub invariant-loop-number : goal.invariant-loop-number
invariant-loop-number g l = IsSetOf l.blocked (blocked_by l.moving l.sites.stacks (take l.number l.functions))
