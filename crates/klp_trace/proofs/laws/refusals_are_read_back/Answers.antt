use Rattle.klp_trace.proofs.AnswerLemmas.{refusal_back}
use Rattle.klp_trace.proofs.laws.refusals_are_read_back.Goals as goal

pub returns : goal.returns
returns c = refusal_back
