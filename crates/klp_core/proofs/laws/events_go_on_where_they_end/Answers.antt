use Rattle.klp_core.proofs.RunLemmas.{after_more}
use Rattle.klp_core.proofs.laws.events_go_on_where_they_end.Goals as goal

pub returns : goal.returns
returns c = after_more c.runs_add_up.ensures
