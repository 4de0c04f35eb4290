use Rattle.std.proofs.Common.{◌≡◌, ℕ, List, ◌++◌, length}
use Rattle.klp_capture.proofs.shown.stands.Given as goal

-- lines were read from the front
abbrev pub invariant-loop-line : goal.invariant-loop-line
invariant-loop-line l = (earlier : List (List ℕ)) × (l.initial.lines ≡ earlier ++ l.lines)

-- fewer lines are left each time
abbrev pub decreases-loop-line : goal.decreases-loop-line
decreases-loop-line l = length l.lines
