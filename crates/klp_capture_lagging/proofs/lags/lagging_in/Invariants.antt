use Rattle.std.proofs.Common.{◌≡◌, ◌++◌, drop}
use Rattle.klp_capture_lagging.specs.Lagging.{lagging_in}
use Rattle.klp_capture_lagging.proofs.lags.lagging_in.Given as goal

-- those so far, and those of the samples that are left
abbrev pub invariant-loop-number : goal.invariant-loop-number
invariant-loop-number l = l.list.items ++ lagging_in l.capture l.target (drop l.number l.samples) ≡ lagging_in l.capture l.target l.samples
