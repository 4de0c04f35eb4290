use Rattle.std.proofs.Common.{◌≡◌, drop}
use Rattle.std.specs.List.{list_any}
use Rattle.klp_capture_lagging.specs.Lagging.{is_about}
use Rattle.klp_capture_lagging.proofs.lags.is_any_about.Given as goal

-- the samples so far say nothing of it
abbrev pub invariant-loop-sample : goal.invariant-loop-sample
invariant-loop-sample l = list_any (is_about l.capture l.thread) l.samples ≡ list_any (is_about l.capture l.thread) (drop l.sample-index l.samples)
