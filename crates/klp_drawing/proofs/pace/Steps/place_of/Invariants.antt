use Rattle.std.proofs.Common.{length}
use Rattle.klp_drawing.proofs.pace.Steps.place_of.Given as goal

-- how many stretches are left to be looked at
abbrev pub decreases-loop-self : goal.decreases-loop-self
decreases-loop-self l = length l.self.rest.now
