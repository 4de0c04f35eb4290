use Rattle.klp_types.proofs.ScriptLemmas.{all_left_alone, untouched}
use Rattle.klp_types.proofs.laws.untouched_variables_stay.Goals as goal

pub returns-clause-edits : goal.returns-clause-edits
returns-clause-edits c = all_left_alone

pub returns-clause-script : goal.returns-clause-script
returns-clause-script c = untouched
