use Rattle.klp_model.proofs.TextLemmas.{text_of-same}
use Rattle.klp_model.proofs.laws.same_functions_same_text.Goals as goal

pub returns : goal.returns
returns c = text_of-same
