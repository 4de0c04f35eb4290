use Rattle.klp_model.proofs.ObservedExamples.{sleeper_end, sleeper_honest, setting_in_place}
use Rattle.klp_model.proofs.consistency.a_sleeper_holds_the_transition.Goals as goal

pub returns-clause-honest : goal.returns-clause-honest
returns-clause-honest c = sleeper_honest

pub returns-clause-in_place : goal.returns-clause-in_place
returns-clause-in_place c = setting_in_place

pub returns-clause-end : goal.returns-clause-end
returns-clause-end c = sleeper_end
