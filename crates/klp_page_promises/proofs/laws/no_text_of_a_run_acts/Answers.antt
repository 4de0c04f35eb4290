use Rattle.klp_page_promises.proofs.HarmlessLemmas.{text_acts_not, text_is_harmless}
use Rattle.klp_page_promises.proofs.laws.no_text_of_a_run_acts.Goals as goal

pub returns-clause-shown : goal.returns-clause-shown
returns-clause-shown c = text_acts_not

pub returns-clause-harmless : goal.returns-clause-harmless
returns-clause-harmless c = text_is_harmless
