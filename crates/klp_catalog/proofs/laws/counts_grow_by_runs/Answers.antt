use Rattle.klp_catalog.proofs.CountLemmas.{counts_grow, looks_grow}
use Rattle.klp_catalog.proofs.laws.counts_grow_by_runs.Goals as goal

pub returns-clause-counts : goal.returns-clause-counts
returns-clause-counts c = counts_grow

pub returns-clause-looks : goal.returns-clause-looks
returns-clause-looks c = looks_grow
