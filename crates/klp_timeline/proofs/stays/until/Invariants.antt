use Rattle.std.proofs.Common.{◌≡◌, ◌+◌, drop}
use Rattle.klp_timeline.specs.Stays.{until}
use Rattle.klp_timeline.proofs.stays.until.Given as goal

abbrev pub invariant-loop-moment : goal.invariant-loop-moment
invariant-loop-moment l = (l.last ≡ l.fn.line + l.moment-index)
    × (until l.fn.task l.fn.stay l.last (drop l.moment-index l.fn.rest) ≡ until l.fn.task l.fn.stay l.fn.line l.fn.rest)
