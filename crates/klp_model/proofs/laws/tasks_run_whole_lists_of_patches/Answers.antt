use Rattle.klp_model.proofs.VersionLemmas.{runs_newest, runs_at_rest, runs_others}
use Rattle.klp_model.proofs.laws.tasks_run_whole_lists_of_patches.Goals as goal

pub returns-clause-patched : goal.returns-clause-patched
returns-clause-patched c = runs_newest

pub returns-clause-at_rest : goal.returns-clause-at_rest
returns-clause-at_rest c = runs_at_rest

pub returns-clause-unpatched : goal.returns-clause-unpatched
returns-clause-unpatched c = runs_others
