use Rattle.std.proofs.Common.{length}
use Rattle.klp_trace_page.proofs.times.with_lines.Given as goal

-- how many lines are left
abbrev pub decreases-loop-line : goal.decreases-loop-line
decreases-loop-line l = length l.lines
