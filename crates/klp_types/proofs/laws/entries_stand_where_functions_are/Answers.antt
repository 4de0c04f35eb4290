use Rattle.klp_types.proofs.EntryLemmas.{entries_from-any}
use Rattle.klp_types.proofs.laws.entries_stand_where_functions_are.Goals as goal

pub returns : goal.returns
returns c = entries_from-any
