use Rattle.klp_types.proofs.EntryLemmas.{entries-on_top}
use Rattle.klp_types.proofs.laws.the_newest_entry_is_on_top.Goals as goal

pub returns : goal.returns
returns c = entries-on_top
