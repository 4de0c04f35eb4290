use Rattle.std.proofs.Common.{arith}
use Rattle.klp_catalog_text.proofs.TextLemmas.{length-lines}
use Rattle.klp_names.proofs.TextLemmas.{fault_here}
use Rattle.klp_names.proofs.names.Names.read.Goals as goal

pub overflow_add-number : goal.overflow_add-number
overflow_add-number c = omega (arith, length-lines c.args.text.now, c.loop-line.invariant.count)

pub returns-in-Err-clause-fault : goal.returns-in-Err-clause-fault
returns-in-Err-clause-fault c =
    fault_here c.args.text.now c.loop-line.number c.in-Some.line.now c.next.new.self c.loop-line.names c.add_line.new.self
    (rw c.in-Some.ensures at c.loop-line.invariant) c.in-Err.kind c.in-Err.ensures
