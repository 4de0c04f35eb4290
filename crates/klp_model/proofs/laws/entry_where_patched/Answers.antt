use Rattle.klp_model.proofs.EntryLemmas.{is_hooked-any}
use Rattle.klp_model.proofs.laws.entry_where_patched.Goals as goal

pub returns : goal.returns
returns c = is_hooked-any
