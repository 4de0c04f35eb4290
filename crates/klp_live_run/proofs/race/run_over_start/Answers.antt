use Rattle.std.proofs.Common.{rules}
use Rattle.klp_live_run.proofs.RaceLemmas.{two_new, have_run}
use Rattle.klp_live_run.proofs.race.run_over_start.Goals as goal

pub run_both-requires-clause-two : goal.run_both-requires-clause-two
run_both-requires-clause-two g c κs within = two_new c.in-Ok.start.1.items (search rules) c.in-Ok.ensures.1

pub returns-clause-done : goal.returns-clause-done
returns-clause-done g c =
    have_run g.S.Start.setting g.S.Start.base (g.M.Machine.journaled c.in-Ok-close.machine) c.args.steps.first.items c.args.steps.second.items c.in_ok-seats.done
    c.in_ok-seats.seats.items c.in_ok-seats.ensures.done c.in-Ok-close.ensures.closed.1
