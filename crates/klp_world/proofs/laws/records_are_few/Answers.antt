use Rattle.klp_world.proofs.ScriptLemmas.{few_script_records}
use Rattle.klp_world.proofs.laws.records_are_few.Goals as goal

pub returns : goal.returns
returns c = few_script_records
