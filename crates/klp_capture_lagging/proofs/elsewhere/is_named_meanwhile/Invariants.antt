use Rattle.std.proofs.Common.{◌≡◌, drop}
use Rattle.klp_capture_lagging.specs.Elsewhere.{is_named_meanwhile}
use Rattle.klp_capture_lagging.proofs.elsewhere.is_named_meanwhile.Given as goal

-- the samples so far say nothing of the thread, and no time is before them
abbrev pub invariant-loop-other : goal.invariant-loop-other
invariant-loop-other l =
    is_named_meanwhile l.capture l.apart l.named l.thread l.sample l.later
    ≡ is_named_meanwhile l.capture l.apart l.named l.thread l.sample (drop l.other-index l.later)
