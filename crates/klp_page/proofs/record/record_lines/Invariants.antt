use Rattle.std.proofs.Common.{◌≡◌, ℕ, List, ◌++◌, length}
use Rattle.klp_console_io.specs.Lines.{lines_and_rest}
use Rattle.klp_page.specs.Rows.{AreRows}
use Rattle.klp_page.proofs.record.record_lines.Given as goal

-- the script is cut into the lines that have their rows, and what is still to be cut
abbrev pub invariant-loop-rest : goal.invariant-loop-rest
invariant-loop-rest g l =
    (lines : List (List ℕ)) × (lines_and_rest l.script ≡ lines ++ lines_and_rest (l.line ++ l.rest))
    × AreRows l.initial.manager l.manager l.opening lines l.recorded.rows.items l.recorded.run.items

abbrev pub decreases-loop-rest : goal.decreases-loop-rest
decreases-loop-rest g l = length l.rest
