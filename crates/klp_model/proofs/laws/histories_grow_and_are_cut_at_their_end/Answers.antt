use Rattle.klp_model.proofs.LegalLemmas.{legal_then_more, legal_before, legal_behind, known_by_events}
use Rattle.klp_model.proofs.laws.histories_grow_and_are_cut_at_their_end.Goals as goal

pub returns-clause-grown : goal.returns-clause-grown
returns-clause-grown c = legal_then_more

pub returns-clause-front : goal.returns-clause-front
returns-clause-front c = legal_before

pub returns-clause-behind : goal.returns-clause-behind
returns-clause-behind c = legal_behind

pub returns-clause-replies : goal.returns-clause-replies
returns-clause-replies c = known_by_events
