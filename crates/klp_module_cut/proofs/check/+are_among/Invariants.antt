use Rattle.std.proofs.Common.{length}
use Rattle.klp_module_cut.proofs.check.+are_among.Given as goal

abbrev pub decreases-are_among : goal.decreases-are_among
decreases-are_among l = length l.all.now
