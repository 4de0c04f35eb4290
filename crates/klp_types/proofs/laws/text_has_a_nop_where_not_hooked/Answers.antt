use Rattle.klp_types.proofs.TextLemmas.{reads_nop}
use Rattle.klp_types.proofs.laws.text_has_a_nop_where_not_hooked.Goals as goal

pub returns : goal.returns
returns c = reads_nop
