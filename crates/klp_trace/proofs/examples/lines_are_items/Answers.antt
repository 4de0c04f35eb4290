use Rattle.klp_trace.proofs.ReadExamples.{read_answered}
use Rattle.klp_trace.proofs.examples.lines_are_items.Goals as goal

pub returns-clause-answered : goal.returns-clause-answered
returns-clause-answered c = read_answered
