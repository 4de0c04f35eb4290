use Rattle.std.proofs.Common.{arith, rules}
use Rattle.klp_tasks.proofs.NumberLemmas.{lowest_out}
use Rattle.klp_tasks.proofs.numbers.TaskNumbers.take_lowest.Goals as goal

pub returns-clause-some : goal.returns-clause-some
returns-clause-some c = lowest_out c.args.self.now.bits (omega arith) (search rules)
