use Rattle.klp_lint_together.proofs.StartLemmas.{not_loaded}
use Rattle.klp_lint_together.proofs.why.why_not_started.Goals as goal

pub returns-in-Some : goal.returns-in-Some
returns-in-Some g c = λ answer tells not. c.in-Some.ensures.some answer tells

pub returns-in-None : goal.returns-in-None
returns-in-None g c = λ answer. not_loaded answer c.args.outcome c.in-None.ensures.none
