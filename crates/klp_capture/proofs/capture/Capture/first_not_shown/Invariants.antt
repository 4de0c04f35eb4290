use Rattle.std.proofs.Common.{take}
use Rattle.std.specs.List.{flat_map}
use Rattle.std.specs.Str.Lines.{lines}
use Rattle.klp_capture.specs.Shown.{judged_items, StandInOrder}
use Rattle.klp_capture.proofs.capture.Capture.first_not_shown.Given as goal

-- the samples so far stand in the lines that were read
abbrev pub invariant-loop-number : goal.invariant-loop-number
invariant-loop-number l = StandInOrder (flat_map (judged_items l.self l.forced l.patches l.threads) (take l.number l.samples)) (lines l.trace) l.lines
