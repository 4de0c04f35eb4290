use Rattle.std.proofs.Common.{length}
use Rattle.klp_capture.proofs.capture.Capture.read.Given as goal

-- fewer lines are left each time
abbrev pub decreases-loop-line : goal.decreases-loop-line
decreases-loop-line l = length l.lines
