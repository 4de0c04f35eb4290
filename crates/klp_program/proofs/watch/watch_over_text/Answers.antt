use Rattle.klp_program.proofs.WatchLemmas.{watches_booted}
use Rattle.klp_program.proofs.watch.watch_over_text.Goals as goal

pub returns : goal.returns
returns c =
    let over = c.in_ok-over_text.ensures in
    watches_booted c.args.catalog.now c.args.trace.now over.plan over.over.booted c.in_ok-over_text.field-0 over.planned over.over.is_booted over.over.came_to
