use Rattle.klp_types.proofs.ScriptLemmas.{few_allocs, made_allocs}
use Rattle.klp_types.proofs.laws.allocs_are_edits.Goals as goal

pub returns-clause-each : goal.returns-clause-each
returns-clause-each c = few_allocs

pub returns-clause-made : goal.returns-clause-made
returns-clause-made c = made_allocs
