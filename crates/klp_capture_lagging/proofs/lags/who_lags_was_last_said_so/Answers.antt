use Rattle.klp_capture_lagging.proofs.LaggingLemmas.{lags_as_said}
use Rattle.klp_capture_lagging.proofs.lags.who_lags_was_last_said_so.Goals as goal

pub returns : goal.returns
returns c = lags_as_said
