use Rattle.std.proofs.Common.{rules}
use Rattle.klp_tasks.proofs.NumberLemmas.{bit_in, bit_out}
use Rattle.klp_tasks.proofs.numbers.TaskNumbers.set.Goals as goal

pub returns-then-is_taken : goal.returns-then-is_taken
returns-then-is_taken c = λ other. rw c.if-is_taken.true (bit_in c.args.self.now.bits c.args.number c.requires other)

pub returns-else-is_taken : goal.returns-else-is_taken
returns-else-is_taken c = λ other. rw c.if-is_taken.false (bit_out c.args.self.now.bits c.args.number c.requires (search rules) other)
