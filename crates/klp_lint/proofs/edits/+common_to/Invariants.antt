use Rattle.std.proofs.Common.{length}
use Rattle.klp_lint.proofs.edits.+common_to.Given as goal

abbrev pub decreases-common_to : goal.decreases-common_to
decreases-common_to l = length l.edits.now
