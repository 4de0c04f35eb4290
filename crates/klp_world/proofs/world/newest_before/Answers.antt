use Rattle.std.proofs.Common.{arith}
use Rattle.std.proofs.lemmas.Grind.{common_steps}
use Rattle.klp_world.proofs.world.newest_before.Goals as goal

pub loop-installed-preserved : goal.loop-installed-preserved
loop-installed-preserved c = grind (arith, common_steps)
