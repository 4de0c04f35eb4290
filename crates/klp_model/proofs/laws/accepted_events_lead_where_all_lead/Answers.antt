use Rattle.klp_model.proofs.LegalLemmas.{history_is_legal}
use Rattle.klp_model.proofs.laws.accepted_events_lead_where_all_lead.Goals as goal

pub returns-clause-legal : goal.returns-clause-legal
returns-clause-legal c = λ setting state events. (history_is_legal setting state events).0

pub returns-clause-state : goal.returns-clause-state
returns-clause-state c = λ setting state events. (history_is_legal setting state events).1
