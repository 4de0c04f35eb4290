use Rattle.std.proofs.Common.{length}
use Rattle.klp_module_cut.proofs.check.+are_same_states.Given as goal

abbrev pub decreases-are_same_states : goal.decreases-are_same_states
decreases-are_same_states l = length l.states.now
