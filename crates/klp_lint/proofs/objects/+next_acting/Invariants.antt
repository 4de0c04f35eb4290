use Rattle.std.proofs.Common.{length}
use Rattle.klp_lint.proofs.objects.+next_acting.Given as goal

abbrev pub decreases-next_acting : goal.decreases-next_acting
decreases-next_acting l = length l.targets.now
