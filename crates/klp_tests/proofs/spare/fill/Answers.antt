use Rattle.klp_tests.proofs.Filling.{all_empty}
use Rattle.klp_tests.proofs.spare.fill.Goals as goal

pub loop-site-init : goal.loop-site-init
loop-site-init c = all_empty c.args.stacks.now c.requires
