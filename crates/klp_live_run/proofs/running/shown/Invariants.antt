-- Each ledger is that of its blank.
use Rattle.klp_live_run.proofs.running.shown.Given as goal

abbrev pub ghosts-answered-L-Ledger : goal.ghosts-answered-L-Ledger
ghosts-answered-L-Ledger g a = record { name = a.reads.name; parts = a.reads.parts }

abbrev pub ghosts-answered-M-Ledger : goal.ghosts-answered-M-Ledger
ghosts-answered-M-Ledger g a = record { name = a.writes.name; parts = a.writes.parts }
