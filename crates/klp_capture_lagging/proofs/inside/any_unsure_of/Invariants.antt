use Rattle.std.proofs.Common.{◌≡◌, drop}
use Rattle.klp_capture_lagging.specs.Inside.{any_unsure_of}
use Rattle.klp_capture_lagging.proofs.inside.any_unsure_of.Given as goal

-- none of the readings so far is such a one
abbrev pub invariant-loop-number : goal.invariant-loop-number
invariant-loop-number l =
    any_unsure_of l.capture l.sample l.later l.readings ≡ any_unsure_of l.capture l.sample l.later (drop l.number l.readings)
