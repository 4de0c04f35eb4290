use Rattle.klp_live_run.proofs.RunLemmas.{lives_by}
use Rattle.klp_live_run.proofs.running.live_over_manager.Goals as goal

pub returns-in-Ok : goal.returns-in-Ok
returns-in-Ok g c =
    lives_by (g.M.Machine.journaled c.args.machine) (g.M.Machine.journaled c.prepare.new.self) c.args.text.now c.in-Ok.steps.first.items c.in-Ok.steps.second.items
    (g.W.Write.contents c.args.out.now) (g.W.Write.contents c.race.new.out) c.race.result c.in-Ok.ensures.steps c.prepare.ensures.prepared c.race.ensures.done c.race.ensures.fault
