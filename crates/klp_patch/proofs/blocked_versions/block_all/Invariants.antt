use Rattle.std.proofs.Common.{take, ◌-◌, ◌≤◌, length}
use Rattle.klp_tasks.specs.Members.{IsSetOf}
use Rattle.klp_patch.specs.Blocked.{blocked_at}
use Rattle.klp_patch.proofs.blocked_versions.block_all.Given as goal

abbrev pub invariant-loop-site : goal.invariant-loop-site
invariant-loop-site l = record { within : l.from ≤ length l.sites.stacks; set : IsSetOf l.blocked (blocked_at 0 l.moving (take l.from l.sites.stacks)) }

abbrev pub decreases-loop-site : goal.decreases-loop-site
decreases-loop-site l = length l.sites.stacks - l.from
