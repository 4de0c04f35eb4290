use Rattle.klp_model.proofs.TextLemmas.{symbol_in-text_of}
use Rattle.klp_model.proofs.laws.reads_as_built.Goals as goal

pub returns : goal.returns
returns c = symbol_in-text_of
