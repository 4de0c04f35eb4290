use Rattle.std.proofs.Common.{◌≡◌, drop}
use Rattle.klp_capture_lagging.specs.Elsewhere.{any_between}
use Rattle.klp_capture_lagging.proofs.elsewhere.any_between.Given as goal

-- the times so far aren't between the samples
abbrev pub invariant-loop-at : goal.invariant-loop-at
invariant-loop-at l = any_between l.apart l.named l.first l.last ≡ any_between l.apart (drop l.at-index l.named) l.first l.last
