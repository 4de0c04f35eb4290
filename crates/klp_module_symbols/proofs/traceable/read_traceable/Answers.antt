use Rattle.std.proofs.Common.{arith}
use Rattle.klp_catalog_text.proofs.TextLemmas.{length-lines}
use Rattle.klp_module_symbols.proofs.traceable.read_traceable.Goals as goal

pub overflow_add-number : goal.overflow_add-number
overflow_add-number c = omega (arith, length-lines c.args.text.now, c.loop-line.invariant.count)
