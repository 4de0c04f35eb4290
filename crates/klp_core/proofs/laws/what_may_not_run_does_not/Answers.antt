use Rattle.klp_core.proofs.MayRunLemmas.{none_runs}
use Rattle.klp_core.proofs.laws.what_may_not_run_does_not.Goals as goal

pub returns : goal.returns
returns c = none_runs
