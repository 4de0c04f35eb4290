use Rattle.std.proofs.Common.{ap, ◌∙◌}
use Rattle.klp_model.specs.declared.event.Event.TheVariants.{Enable}
use Rattle.klp_lint_together.specs.Starting.{outcome_of}
use Rattle.klp_lint_together.proofs.KeptLemmas.{further_taken}
use Rattle.klp_lint_together.proofs.loading.start.Goals as goal

pub returns-clause-outcome : goal.returns-clause-outcome
returns-clause-outcome g c =
    c.outcome_of.ensures ∙ ap outcome_of c.apply.ensures.taken.answered

pub returns-clause-further : goal.returns-clause-further
returns-clause-further g c =
    further_taken c.args.manager.now c.apply.new.self (Enable c.args.patch) c.apply.result c.apply.ensures.taken c.apply.ensures.setting
