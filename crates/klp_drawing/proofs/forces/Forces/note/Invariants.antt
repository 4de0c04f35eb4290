use Rattle.std.proofs.Common.{length}
use Rattle.klp_drawing.proofs.forces.Forces.note.Given as goal

-- what is left to be looked at
abbrev pub decreases-loop-left : goal.decreases-loop-left
decreases-loop-left l = length l.self.turns.items
