-- Each ledger is that of its blank.
use Rattle.klp_program.proofs.serve.console.Given as goal

abbrev pub ghosts-over_std-L-Ledger : goal.ghosts-over_std-L-Ledger
ghosts-over_std-L-Ledger g a = record { name = a.reads.name; parts = a.reads.parts }

abbrev pub ghosts-over_std-M-Ledger : goal.ghosts-over_std-M-Ledger
ghosts-over_std-M-Ledger g a = record { name = a.writes.name; parts = a.writes.parts }
