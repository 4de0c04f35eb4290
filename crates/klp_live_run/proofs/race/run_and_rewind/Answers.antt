use Rattle.klp_live_run.proofs.RaceLemmas.{have_run_both}
use Rattle.klp_live_run.proofs.race.run_and_rewind.Goals as goal

pub returns-clause-done : goal.returns-clause-done
returns-clause-done g c =
    have_run_both (g.M.Machine.journaled c.args.machine) (g.M.Machine.journaled c.in_ok-machine.machine) (g.M.Machine.journaled c.rewound_machine.result)
    c.args.steps.first.items c.args.steps.second.items c.in_ok-machine.done c.in_ok-machine.ensures.done c.rewound_machine.ensures.rewound
