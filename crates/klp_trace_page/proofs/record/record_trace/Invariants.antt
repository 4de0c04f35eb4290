use Rattle.std.proofs.Common.{length}
use Rattle.std.specs.Str.Lines.{lines}
use Rattle.klp_trace_page.proofs.TracedLemmas.{IsPlayedTo}
use Rattle.klp_trace_page.proofs.record.record_trace.Given as goal

-- the lines so far have their rows
abbrev pub invariant-loop-line : goal.invariant-loop-line
invariant-loop-line g l = IsPlayedTo l.initial.manager l.manager l.opening (lines l.text) l.lines l.items l.rest l.recorded.rows.items l.recorded.run.items

abbrev pub decreases-loop-line : goal.decreases-loop-line
decreases-loop-line g l = length l.lines
