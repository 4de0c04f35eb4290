use Rattle.std.proofs.Common.{length}
use Rattle.klp_lint.proofs.undone.+first_left.Given as goal

abbrev pub decreases-first_left : goal.decreases-first_left
decreases-first_left g l = length l.edits.now
