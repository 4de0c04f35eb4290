use Rattle.std.proofs.Common.{length}
use Rattle.klp_lint.proofs.edits.+common_with.Given as goal

abbrev pub decreases-common_with : goal.decreases-common_with
decreases-common_with l = length l.others.now
