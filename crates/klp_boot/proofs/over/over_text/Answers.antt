use Rattle.klp_boot.proofs.OverLemmas.{over_text}
use Rattle.klp_boot.proofs.over.over_text.Goals as goal

pub returns : goal.returns
returns g c =
    over_text g.U.ManagerUse.comes_to c.args.catalog.now c.in_ok-plan.plan c.args.user.now c.over_plan.new.user c.over_plan.result
    c.in_ok-plan.ensures.plan c.over_plan.ensures
