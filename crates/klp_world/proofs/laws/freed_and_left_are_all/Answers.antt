use Rattle.std.proofs.Common.{arith}
use Rattle.klp_world.proofs.UndoLemmas.{count_parted}
use Rattle.klp_world.proofs.laws.freed_and_left_are_all.Goals as goal

pub returns : goal.returns
returns c = λ world id. let parted = count_parted world.shadow id in omega arith
