use Rattle.std.proofs.Common.{rules, arith}
use Rattle.std.proofs.lemmas.Grind.{common_steps}
use Rattle.klp_live.proofs.publisher.Publisher.publish.Goals as goal

pub new-requires : goal.new-requires
new-requires g c = search rules

pub returns : goal.returns
returns g c = grind (arith, common_steps)
