use Rattle.klp_patch.proofs.MayRunLemmas.{enabling-few, coming-few, going-few}
use Rattle.klp_patch.proofs.laws.runs_log_no_more_than_may_run.Goals as goal

pub returns-clause-enabling : goal.returns-clause-enabling
returns-clause-enabling c = enabling-few

pub returns-clause-coming : goal.returns-clause-coming
returns-clause-coming c = coming-few

pub returns-clause-going : goal.returns-clause-going
returns-clause-going c = going-few
