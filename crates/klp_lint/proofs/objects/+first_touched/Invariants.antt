use Rattle.std.proofs.Common.{length}
use Rattle.klp_lint.proofs.objects.+first_touched.Given as goal

abbrev pub decreases-first_touched : goal.decreases-first_touched
decreases-first_touched l = length l.targets.now
