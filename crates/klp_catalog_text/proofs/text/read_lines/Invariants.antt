use Rattle.std.proofs.Common.{length}
use Rattle.klp_catalog_text.proofs.TextLemmas.{IsReadTo}
use Rattle.klp_catalog_text.proofs.text.read_lines.Given as goal

-- the lines so far give the draft
abbrev pub invariant-loop-line : goal.invariant-loop-line
invariant-loop-line l = IsReadTo l.text l.number l.lines l.draft

abbrev pub decreases-loop-line : goal.decreases-loop-line
decreases-loop-line l = length l.lines
