use Rattle.klp_world.proofs.ScriptLemmas.{undone_script}
use Rattle.klp_world.proofs.laws.scripts_are_undone.Goals as goal

pub returns : goal.returns
returns c = undone_script
