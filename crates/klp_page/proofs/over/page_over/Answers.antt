use Rattle.std.proofs.Common.{sym, subst}
use Rattle.klp_page.specs.Over.{IsFaultOver}
use Rattle.klp_page.proofs.OverLemmas.{none_shown}
use Rattle.klp_page.proofs.over.page_over.Goals as goal

pub returns-in-Ok-clause-page : goal.returns-in-Ok-clause-page
returns-in-Ok-clause-page g c =
    let over = c.in_ok-ended.ensures in
    record { plan = c.in_ok-plan.plan; planned = c.in_ok-plan.ensures.plan; booted = over.booted; is_booted = over.is_booted; is_page = rw c.in-Ok.is at over.came_to.0 }

pub returns-clause-fault : goal.returns-clause-fault
returns-clause-fault g c =
    let over = c.in_ok-ended.ensures in
    subst (IsFaultOver (g.S.PageSource.lacks c.args.source.now) c.args.catalog.now) (sym c.fault_of.ensures)
    (none_shown (g.S.PageSource.lacks c.args.source.now) c.args.catalog.now c.in_ok-plan.plan over.booted c.in-Err.why c.in_ok-plan.ensures.plan over.is_booted (rw c.in-Err.is at over.came_to.1))
