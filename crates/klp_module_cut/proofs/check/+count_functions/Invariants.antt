use Rattle.std.proofs.Common.{length}
use Rattle.klp_module_cut.proofs.check.+count_functions.Given as goal

abbrev pub decreases-count_functions : goal.decreases-count_functions
decreases-count_functions l = length l.objects.now
