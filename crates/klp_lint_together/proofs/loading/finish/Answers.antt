use Rattle.klp_model.specs.declared.event.Event.TheVariants.{Poll}
use Rattle.klp_lint_together.proofs.KeptLemmas.{further_taken}
use Rattle.klp_lint_together.proofs.loading.finish.Goals as goal

pub returns : goal.returns
returns g c =
    further_taken c.args.manager.now c.apply.new.self Poll c.apply.result c.apply.ensures.taken c.apply.ensures.setting
