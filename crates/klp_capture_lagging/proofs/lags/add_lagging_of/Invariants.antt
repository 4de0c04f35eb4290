use Rattle.std.proofs.Common.{◌≡◌, ◌++◌, drop}
use Rattle.klp_capture_lagging.specs.Lagging.{lagging_of}
use Rattle.klp_capture_lagging.proofs.lags.add_lagging_of.Given as goal

-- those so far, and those of the readings that are left
abbrev pub invariant-loop-number : goal.invariant-loop-number
invariant-loop-number l =
    l.list.items ++ lagging_of l.capture l.target l.sample l.later (drop l.number l.readings)
    ≡ l.initial.list.items ++ lagging_of l.capture l.target l.sample l.later l.readings
