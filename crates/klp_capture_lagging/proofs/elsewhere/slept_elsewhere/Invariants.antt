use Rattle.std.proofs.Common.{◌≡◌, drop}
use Rattle.klp_capture_lagging.specs.Elsewhere.{slept_elsewhere}
use Rattle.klp_capture_lagging.proofs.elsewhere.slept_elsewhere.Given as goal

-- none of the samples so far has such a reading
abbrev pub invariant-loop-number : goal.invariant-loop-number
invariant-loop-number l =
    slept_elsewhere l.capture l.apart l.named l.thread l.flags l.capture.samples.items
    ≡ slept_elsewhere l.capture l.apart l.named l.thread l.flags (drop l.number l.capture.samples.items)
