use Rattle.std.proofs.Common.{◌≡◌, drop}
use Rattle.klp_capture_lagging.specs.Elsewhere.{any_named_behind}
use Rattle.klp_capture_lagging.proofs.elsewhere.any_named_behind.Given as goal

-- none of the readings so far is such a one
abbrev pub invariant-loop-number : goal.invariant-loop-number
invariant-loop-number l =
    any_named_behind l.capture l.apart l.named l.thread l.sample l.later l.flags 0 l.readings
    ≡ any_named_behind l.capture l.apart l.named l.thread l.sample l.later l.flags l.number (drop l.number l.readings)
