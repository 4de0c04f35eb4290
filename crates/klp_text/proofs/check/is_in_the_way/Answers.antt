use Rattle.std.proofs.Common.{arith}
use Rattle.std.proofs.lemmas.Grind.{common_steps}
use Rattle.klp_text.proofs.check.is_in_the_way.Goals as goal

pub returns-else-lies_on_objects : goal.returns-else-lies_on_objects
returns-else-lies_on_objects c = grind (arith, common_steps)
