use Rattle.std.proofs.Common.{length}
use Rattle.klp_lint.proofs.edits.+script_for.Given as goal

abbrev pub decreases-script_for : goal.decreases-script_for
decreases-script_for l = length l.callbacks.now
