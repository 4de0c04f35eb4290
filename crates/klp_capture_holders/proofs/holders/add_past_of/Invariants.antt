use Rattle.std.proofs.Common.{◌≡◌}
use Rattle.klp_capture_holders.specs.Holding.{still_held}
use Rattle.klp_capture_holders.proofs.holders.add_past_of.Given as goal

-- nobody more holds the transition up still
abbrev pub invariant-loop-sleep : goal.invariant-loop-sleep
invariant-loop-sleep l = still_held l.list.items ≡ still_held l.initial.list.items
