use Rattle.std.proofs.Common.{◌≡◌, drop}
use Rattle.std.specs.List.{list_any}
use Rattle.klp_capture.specs.Shown.{is_settled}
use Rattle.klp_capture_lagging.proofs.lags.any_is_whole.Given as goal

-- the samples so far are torn
abbrev pub invariant-loop-sample : goal.invariant-loop-sample
invariant-loop-sample l = list_any is_settled l.samples ≡ list_any is_settled (drop l.sample-index l.samples)
