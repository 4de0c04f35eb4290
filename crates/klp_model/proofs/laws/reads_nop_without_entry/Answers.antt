use Rattle.klp_model.proofs.TextLemmas.{text_of-nop}
use Rattle.klp_model.proofs.laws.reads_nop_without_entry.Goals as goal

pub returns : goal.returns
returns c = text_of-nop
