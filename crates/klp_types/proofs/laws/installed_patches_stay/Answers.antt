use Rattle.klp_types.proofs.ScriptLemmas.{installed_stay}
use Rattle.klp_types.proofs.laws.installed_patches_stay.Goals as goal

pub returns : goal.returns
returns c = installed_stay
