use Rattle.klp_trace.proofs.ReadExamples.{read_number, read_zero_in_front, read_freed}
use Rattle.klp_trace.proofs.examples.answers_are_spelled_as_on_the_console.Goals as goal

pub returns-clause-number : goal.returns-clause-number
returns-clause-number c = read_number

pub returns-clause-zero_in_front : goal.returns-clause-zero_in_front
returns-clause-zero_in_front c = read_zero_in_front

pub returns-clause-freed : goal.returns-clause-freed
returns-clause-freed c = read_freed
