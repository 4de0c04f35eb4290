use Rattle.klp_model.proofs.RunLemmas.{run-append, answers-append}
use Rattle.klp_model.proofs.laws.runs_go_on_where_they_end.Goals as goal

pub returns-clause-state : goal.returns-clause-state
returns-clause-state c = run-append

pub returns-clause-answered : goal.returns-clause-answered
returns-clause-answered c = answers-append
