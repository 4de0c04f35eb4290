use Rattle.std.proofs.Common.{◌≡◌, drop}
use Rattle.std.specs.List.{list_any}
use Rattle.klp_capture_lagging.specs.Lagging.{is_of}
use Rattle.klp_capture_lagging.proofs.lags.is_read.Given as goal

-- the readings so far are of other threads
abbrev pub invariant-loop-seen : goal.invariant-loop-seen
invariant-loop-seen l = list_any (is_of l.thread) l.readings ≡ list_any (is_of l.thread) (drop l.seen-index l.readings)
