use Rattle.std.proofs.Common.{rules}
use Rattle.klp_live_run.proofs.race.rewound_machine.Goals as goal

pub returns-clause-rewound : goal.returns-clause-rewound
returns-clause-rewound g c = search rules
