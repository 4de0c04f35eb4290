use Rattle.klp_model.proofs.AllowedExamples.{replacing, withdrawn, replaced}
use Rattle.klp_model.proofs.allowed_examples.these_states_are_allowed.Goals as goal

pub returns-clause-replacing : goal.returns-clause-replacing
returns-clause-replacing c = replacing

pub returns-clause-withdrawn : goal.returns-clause-withdrawn
returns-clause-withdrawn c = withdrawn

pub returns-clause-replaced : goal.returns-clause-replaced
returns-clause-replaced c = replaced
