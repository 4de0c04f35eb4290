use Rattle.std.proofs.Common.{◌≡◌, ◌+◌, ◌≤◌, ℕ, List, ◌++◌, length, false}
use Rattle.klp_console_io.specs.Lines.{lines_and_rest}
use Rattle.klp_console.specs.Said.{Ahead}
use Rattle.klp_console.proofs.hear.hear_lines.Given as goal

-- what was heard is cut into the lines that were served, and what is still to be cut
abbrev pub invariant-loop-rest : goal.invariant-loop-rest
invariant-loop-rest g l = record {
  heard : (lines : List (List ℕ)) × (lines_and_rest (l.initial.line ++ l.piece) ≡ lines ++ lines_and_rest (l.line ++ l.rest))
      × Ahead (record { manager = l.initial.manager; served = l.initial.served; said = (l.initial.answers, g.W.Sink.written l.initial.writer); marks = l.initial.marks })
      (record { manager = l.manager; served = l.served; said = (l.answers, g.W.Sink.written l.writer); marks = l.marks }) lines;
  still : l.answers.has_failed ≡ false;
  few : l.served.refused ≤ l.served.lines;
  room : l.served.lines + length l.rest ≤ l.initial.served.lines + length l.piece;
}

abbrev pub decreases-loop-rest : goal.decreases-loop-rest
decreases-loop-rest g l = length l.rest
