use Rattle.klp_model.proofs.LeavingLemmas.{others_stay}
use Rattle.klp_model.proofs.laws.a_patch_leaves_the_entries_of_the_others.Goals as goal

pub returns : goal.returns
returns c = λ setting state patch site allowed moving. others_stay setting patch site state allowed moving
