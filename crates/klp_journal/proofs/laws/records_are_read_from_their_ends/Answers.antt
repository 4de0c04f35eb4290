use Rattle.klp_journal.proofs.BackLemmas.{apart}
use Rattle.klp_journal.proofs.laws.records_are_read_from_their_ends.Goals as goal

pub returns : goal.returns
returns c = apart
