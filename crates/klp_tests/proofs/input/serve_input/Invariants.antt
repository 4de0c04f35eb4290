-- Each ledger is that of its blank.
use Rattle.klp_tests.proofs.input.serve_input.Given as goal

abbrev pub ghosts-serve_over-L-Ledger : goal.ghosts-serve_over-L-Ledger
ghosts-serve_over-L-Ledger g a = record { name = a.for_reads.name; parts = a.for_reads.parts }

abbrev pub ghosts-serve_over-M-Ledger : goal.ghosts-serve_over-M-Ledger
ghosts-serve_over-M-Ledger g a = record { name = a.for_writes.name; parts = a.for_writes.parts }
