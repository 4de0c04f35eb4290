use Rattle.std.proofs.Common.{length}
use Rattle.klp_names.proofs.TextLemmas.{IsReadTo}
use Rattle.klp_names.proofs.names.Names.read.Given as goal

-- the lines so far tell the names
abbrev pub invariant-loop-line : goal.invariant-loop-line
invariant-loop-line l = IsReadTo l.text l.number l.lines l.names

abbrev pub decreases-loop-line : goal.decreases-loop-line
decreases-loop-line l = length l.lines
