use Rattle.std.specs.Prelude.{[]}
use Rattle.klp_manager_state.specs.Managed.{setting_of}
use Rattle.klp_live.specs.Shown.{Holds}
use Rattle.klp_live_run.proofs.race.run_and_rewind.Given as goal

abbrev pub ghosts-run_over_start-S-Ledger : goal.ghosts-run_over_start-S-Ledger
ghosts-run_over_start-S-Ledger g a = record { name = a.blank.name; parts = a.blank.parts }

abbrev pub ghosts-run_over_start-S-Start : goal.ghosts-run_over_start-S-Start
ghosts-run_over_start-S-Start g a = record { book = a.opened.seen.book; setting = setting_of (g.M.Machine.journaled a.machine).managed; base = (g.M.Machine.journaled a.machine).base }

abbrev pub ghosts-run_over_start-S-Protocol : goal.ghosts-run_over_start-S-Protocol
ghosts-run_over_start-S-Protocol g a = record { holds = Holds (setting_of (g.M.Machine.journaled a.machine).managed) (g.M.Machine.journaled a.machine).base a.opened.seen.book; first = record { known = [] } }
