use Rattle.klp_types.proofs.ScriptLemmas.{key_by_key, all_by_key}
use Rattle.klp_types.proofs.laws.edits_go_key_by_key.Goals as goal

pub returns-clause-each : goal.returns-clause-each
returns-clause-each c = key_by_key

pub returns-clause-all : goal.returns-clause-all
returns-clause-all c = all_by_key
