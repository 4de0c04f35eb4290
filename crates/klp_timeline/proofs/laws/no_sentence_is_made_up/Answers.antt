use Rattle.klp_timeline.proofs.TellingLemmas.{none_made_up}
use Rattle.klp_timeline.proofs.laws.no_sentence_is_made_up.Goals as goal

pub returns : goal.returns
returns c = none_made_up
