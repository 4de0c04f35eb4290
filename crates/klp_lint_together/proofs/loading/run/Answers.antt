use Rattle.std.proofs.Common.{refl}
use Rattle.klp_lint_together.proofs.KeptLemmas.{further_run}
use Rattle.klp_lint_together.proofs.loading.run.Goals as goal

pub returns-clause-leads : goal.returns-clause-leads
returns-clause-leads g c = record { start = c.args.manager.now; is_here = refl; counts = c.run.result; taken = c.run.ensures.taken }

pub returns-clause-further : goal.returns-clause-further
returns-clause-further g c =
    further_run c.args.manager.now c.run.new.self c.args.events.now c.run.result c.run.ensures.taken c.run.ensures.setting
