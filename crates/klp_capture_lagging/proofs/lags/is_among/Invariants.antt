use Rattle.std.proofs.Common.{◌≡◌, drop}
use Rattle.std.specs.List.{list_any}
use Rattle.klp_capture_lagging.specs.Lagging.{is_same}
use Rattle.klp_capture_lagging.proofs.lags.is_among.Given as goal

-- the threads so far are others
abbrev pub invariant-loop-own : goal.invariant-loop-own
invariant-loop-own l = list_any (is_same l.thread) l.threads ≡ list_any (is_same l.thread) (drop l.own-index l.threads)
