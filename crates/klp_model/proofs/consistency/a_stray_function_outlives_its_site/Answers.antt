use Rattle.klp_model.proofs.ObservedExamples.{stray_end, stray_honest}
use Rattle.klp_model.proofs.consistency.a_stray_function_outlives_its_site.Goals as goal

pub returns-clause-honest : goal.returns-clause-honest
returns-clause-honest c = stray_honest

pub returns-clause-end : goal.returns-clause-end
returns-clause-end c = stray_end
