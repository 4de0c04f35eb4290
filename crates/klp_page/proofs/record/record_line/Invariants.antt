-- The ledger is that of its blank.
use Rattle.klp_page.proofs.record.record_line.Given as goal

abbrev pub ghosts-answer : goal.ghosts-answer
ghosts-answer g a = record { name = a.writes.name; parts = a.writes.parts }
