use Rattle.std.proofs.Common.{length}
use Rattle.klp_timeline.proofs.still.+are_same.Given as goal

-- what is left to be compared
abbrev pub decreases-are_same : goal.decreases-are_same
decreases-are_same l = length l.before.now
