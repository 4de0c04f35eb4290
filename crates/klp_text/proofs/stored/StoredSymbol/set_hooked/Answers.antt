use Rattle.std.proofs.Common.{arith}
use Rattle.std.proofs.lemmas.Grind.{common_steps}
use Rattle.klp_text.proofs.stored.StoredSymbol.set_hooked.Goals as goal

pub returns-clause-body : goal.returns-clause-body
returns-clause-body c = grind (arith, common_steps)
