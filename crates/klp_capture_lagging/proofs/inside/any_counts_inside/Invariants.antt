use Rattle.std.proofs.Common.{◌≡◌, drop}
use Rattle.std.specs.List.{list_any}
use Rattle.klp_capture_lagging.specs.Inside.{counts_inside}
use Rattle.klp_capture_lagging.proofs.inside.any_counts_inside.Given as goal

-- the samples so far count none
abbrev pub invariant-loop-sample : goal.invariant-loop-sample
invariant-loop-sample l = list_any counts_inside l.samples ≡ list_any counts_inside (drop l.sample-index l.samples)
