use Rattle.klp_core.proofs.FullLemmas.{alone_is_full}
use Rattle.klp_core.proofs.laws.the_journal_alone_is_full.Goals as goal

pub returns : goal.returns
returns c = alone_is_full
