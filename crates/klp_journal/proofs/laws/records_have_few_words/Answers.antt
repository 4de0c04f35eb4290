use Rattle.klp_journal.proofs.RecordsLemmas.{few}
use Rattle.klp_journal.proofs.laws.records_have_few_words.Goals as goal

pub returns : goal.returns
returns c = few
