use Rattle.std.proofs.Common.{length}
use Rattle.klp_lint.proofs.objects.+first_common.Given as goal

abbrev pub decreases-first_common : goal.decreases-first_common
decreases-first_common l = length l.targets.now
