use Rattle.klp_core.proofs.WithdrawalLemmas.{leaves_no_trace}
use Rattle.klp_core.proofs.laws.what_is_withdrawn_leaves_no_trace.Goals as goal

pub returns : goal.returns
returns c = leaves_no_trace c.gone_at_the_end.ensures c.only_shadow_events_outside.ensures
