use Rattle.std.proofs.Common.{length}
use Rattle.std.specs.Str.Lines.{lines}
use Rattle.klp_trace.proofs.TraceLemmas.{IsReadTo}
use Rattle.klp_trace.proofs.trace.Trace.read.Given as goal

-- the lines so far are those entries
abbrev pub invariant-loop-line : goal.invariant-loop-line
invariant-loop-line g l = IsReadTo l.manager (lines l.text) l.lines l.items.items l.times.items l.last

abbrev pub decreases-loop-line : goal.decreases-loop-line
decreases-loop-line g l = length l.lines
