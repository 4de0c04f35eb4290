use Rattle.std.proofs.Common.{◌≡◌, ◌+◌, ◌≤◌, drop}
use Rattle.klp_timeline.specs.Shown.{left_out_of, left_out}
use Rattle.klp_timeline.proofs.shown.left_out.Given as goal

-- those so far, and those that are left
abbrev pub invariant-loop-sentence : goal.invariant-loop-sentence
invariant-loop-sentence l = (l.count ≤ l.sentence-index) × (l.count + left_out_of l.excess (drop l.sentence-index l.fn.sentences) ≡ left_out l.fn.sentences)
