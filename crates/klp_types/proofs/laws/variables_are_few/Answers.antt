use Rattle.klp_types.proofs.ScriptLemmas.{script_room}
use Rattle.klp_types.proofs.laws.variables_are_few.Goals as goal

pub returns : goal.returns
returns c = script_room
