use Rattle.std.proofs.Common.{◌≡◌, ◌+◌, length}
use Rattle.std.specs.Str.Lines.{lines}
use Rattle.klp_live_run.proofs.StepLemmas.{IsReadTo}
use Rattle.klp_live_run.proofs.step_lines.steps_of.Given as goal

-- the lines so far give the steps
abbrev pub invariant-loop-line : goal.invariant-loop-line
invariant-loop-line g l = IsReadTo l.manager (lines l.text) l.lines l.number l.steps.first.items l.steps.second.items

abbrev pub decreases-loop-line : goal.decreases-loop-line
decreases-loop-line g l = length l.lines
