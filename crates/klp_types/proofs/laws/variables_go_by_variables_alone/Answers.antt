use Rattle.klp_types.proofs.ScriptLemmas.{taken_leaves, after_same}
use Rattle.klp_types.proofs.laws.variables_go_by_variables_alone.Goals as goal

pub returns-clause-taken : goal.returns-clause-taken
returns-clause-taken c = taken_leaves

pub returns-clause-after : goal.returns-clause-after
returns-clause-after c = after_same
