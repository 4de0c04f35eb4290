use Rattle.klp_timeline.proofs.TellingLemmas.{no_fact_left_out}
use Rattle.klp_timeline.proofs.laws.no_fact_is_left_out.Goals as goal

pub returns : goal.returns
returns c = no_fact_left_out
