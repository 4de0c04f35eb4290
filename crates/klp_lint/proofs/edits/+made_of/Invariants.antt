use Rattle.std.proofs.Common.{length}
use Rattle.klp_lint.proofs.edits.+made_of.Given as goal

abbrev pub decreases-made_of : goal.decreases-made_of
decreases-made_of l = length l.edits.now
