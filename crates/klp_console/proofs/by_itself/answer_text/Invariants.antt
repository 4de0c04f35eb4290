-- The ledger is that of its blank.
use Rattle.klp_console.proofs.by_itself.answer_text.Given as goal

abbrev pub ghosts-answer_in : goal.ghosts-answer_in
ghosts-answer_in g a = record { name = a.writes.name; parts = a.writes.parts }
