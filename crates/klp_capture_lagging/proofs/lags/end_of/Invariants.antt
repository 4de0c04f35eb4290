use Rattle.std.proofs.Common.{◌≡◌, drop}
use Rattle.klp_capture_lagging.specs.Lagging.{end_of}
use Rattle.klp_capture_lagging.proofs.lags.end_of.Given as goal

-- a whole sample is among those that are left, or the samples so far are torn
abbrev pub invariant-loop-place : goal.invariant-loop-place
invariant-loop-place l = end_of (drop l.place l.samples) ≡ end_of l.samples
