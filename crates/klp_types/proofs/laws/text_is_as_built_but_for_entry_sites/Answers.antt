use Rattle.klp_types.proofs.TextLemmas.{symbol_in-text_where}
use Rattle.klp_types.proofs.laws.text_is_as_built_but_for_entry_sites.Goals as goal

pub returns : goal.returns
returns c = symbol_in-text_where
