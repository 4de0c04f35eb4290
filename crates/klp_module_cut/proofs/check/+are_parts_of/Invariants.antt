use Rattle.std.proofs.Common.{length}
use Rattle.klp_module_cut.proofs.check.+are_parts_of.Given as goal

abbrev pub decreases-are_parts_of : goal.decreases-are_parts_of
decreases-are_parts_of l = length l.wholes.now
