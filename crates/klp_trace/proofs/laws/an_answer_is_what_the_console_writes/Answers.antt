use Rattle.klp_trace.proofs.AnswerLemmas.{answer_written}
use Rattle.klp_trace.proofs.laws.an_answer_is_what_the_console_writes.Goals as goal

pub returns : goal.returns
returns c = answer_written
