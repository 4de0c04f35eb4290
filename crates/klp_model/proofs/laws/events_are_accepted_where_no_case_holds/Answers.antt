use Rattle.klp_model.proofs.RefusalLemmas.{none_holds, next_accepted, next_refused}
use Rattle.klp_model.proofs.laws.events_are_accepted_where_no_case_holds.Goals as goal

pub returns-clause-none : goal.returns-clause-none
returns-clause-none c = none_holds

pub returns-clause-next : goal.returns-clause-next
returns-clause-next c = next_accepted

pub returns-clause-stays : goal.returns-clause-stays
returns-clause-stays c = next_refused
