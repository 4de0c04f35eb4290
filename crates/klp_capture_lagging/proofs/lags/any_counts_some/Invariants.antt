use Rattle.std.proofs.Common.{◌≡◌, drop}
use Rattle.std.specs.List.{list_any}
use Rattle.klp_capture_lagging.specs.Lagging.{counts_some}
use Rattle.klp_capture_lagging.proofs.lags.any_counts_some.Given as goal

-- the samples so far count none
abbrev pub invariant-loop-sample : goal.invariant-loop-sample
invariant-loop-sample l = list_any counts_some l.samples ≡ list_any counts_some (drop l.sample-index l.samples)
