use Rattle.klp_model.proofs.ReplacingLemmas.{two_replace}
use Rattle.klp_model.proofs.laws.at_most_two_patches_replace.Goals as goal

pub returns : goal.returns
returns c = two_replace
