use Rattle.std.specs.Prelude.{[]}
use Rattle.klp_manager_state.specs.Managed.{setting_of}
use Rattle.klp_live.specs.Shown.{Holds}
use Rattle.klp_live_tests.proofs.books.over.Given as goal

abbrev pub ghosts-opened-S-Ledger : goal.ghosts-opened-S-Ledger
ghosts-opened-S-Ledger g a = record { name = a.blank.name; parts = a.blank.parts }

abbrev pub ghosts-opened-S-Start : goal.ghosts-opened-S-Start
ghosts-opened-S-Start g a = record { book = a.opened.seen.book; setting = setting_of (g.M.Machine.journaled a.machine).managed; base = (g.M.Machine.journaled a.machine).base }

abbrev pub ghosts-opened-S-Protocol : goal.ghosts-opened-S-Protocol
ghosts-opened-S-Protocol g a = record { holds = Holds (setting_of (g.M.Machine.journaled a.machine).managed) (g.M.Machine.journaled a.machine).base a.opened.seen.book; first = record { known = [] } }
