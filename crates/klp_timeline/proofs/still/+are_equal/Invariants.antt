use Rattle.std.proofs.Common.{length}
use Rattle.klp_timeline.proofs.still.+are_equal.Given as goal

-- what is left to be compared
abbrev pub decreases-are_equal : goal.decreases-are_equal
decreases-are_equal l = length l.before.now
