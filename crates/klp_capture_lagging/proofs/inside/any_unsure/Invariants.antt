use Rattle.std.proofs.Common.{◌≡◌, drop}
use Rattle.klp_capture_lagging.specs.Inside.{any_unsure}
use Rattle.klp_capture_lagging.proofs.inside.any_unsure.Given as goal

-- none of the samples so far has such a reading
abbrev pub invariant-loop-number : goal.invariant-loop-number
invariant-loop-number l = any_unsure l.capture l.samples ≡ any_unsure l.capture (drop l.number l.samples)
